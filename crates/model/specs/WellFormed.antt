-- What a sound block holds, said of the abstract problem, plan and list and without any order of reading; and
-- what a list that passes holds, without any order of looking for faults.
use Rattle.std.specs.Prelude.{◌≡◌, true, List, [], ◌∷◌, ℕ, ◌+◌, ◌-◌, ◌*◌, ◌%◌, ◌^◌, ◌≤◌, ◌<◌, length, get_or}
use Rattle.model.specs.declared.Limits.{Limits}
use Rattle.model.specs.Limits.{is_version, max_facts, max_effects, max_actions, max_steps, max_problem_bytes, max_formula_bytes, max_depth}
use Rattle.model.specs.Formula.{Literal, fact, denial, Formula, Formulas, lit, all, any, none, more}
use Rattle.model.specs.Action.{Effect, Action}
use Rattle.model.specs.Answer.{Answer, answered}
use Rattle.model.specs.Case.{Task}
use Rattle.model.specs.Walk.{Look, Line}
use Rattle.model.specs.CaseList.{claims}
use Rattle.model.specs.FormulaBytes.{literal_byte, member_count, formula_bytes}
use Rattle.model.specs.ProblemBytes.{Problem, encode_problem}

-- every element is a byte
abbrev pub Bytes : List ℕ → Type 0
Bytes s = (i : ℕ) → get_or s i 0 < 256

-- every element of a list
abbrev pub Each : {A : Type 0} → (A → Type 0) → List A → Type 0
Each P [] = Unit {0}
Each P (a ∷ as') = P a × Each P as'

-- a literal of a declared fact
abbrev pub Declared : ℕ → Literal → Type 0
Declared facts (fact f) = f < facts
Declared facts (denial f) = f < facts

-- a formula that may stand in a group whose mark is `parent` (0: in none), where `left` more groups may nest: no group is of the kind that it stands
-- in, and a count is one byte
unfoldable mutual
  pub Formed : ℕ → ℕ → ℕ → Formula → Type 0
  Formed facts left parent (lit l) = Declared facts l
  Formed facts left parent (all ms) = (0 < left) × (parent ≡ 0x80 → ⊥) × (member_count ms < 256) × FormedAll facts (left - 1) 0x80 ms
  Formed facts left parent (any ms) = (0 < left) × (parent ≡ 0x81 → ⊥) × (member_count ms < 256) × FormedAll facts (left - 1) 0x81 ms

  pub FormedAll : ℕ → ℕ → ℕ → Formulas → Type 0
  FormedAll facts left parent none = Unit {0}
  FormedAll facts left parent (more m ms) = Formed facts left parent m × FormedAll facts left parent ms

-- a formula's length: 1 to 1,024 bytes
pub record FormulaOk (facts : ℕ) (f : Formula) : Type 0 where
  pub formed : Formed facts max_depth 0 f
  pub short : length (formula_bytes f) ≤ max_formula_bytes

-- the literals' bytes rise, from `least` on
abbrev pub EffectsOk : ℕ → ℕ → List Effect → Type 0
EffectsOk facts least [] = Unit {0}
EffectsOk facts least (e ∷ es) =
    Declared facts e.literal × (least ≤ literal_byte e.literal) × FormulaOk facts e.condition ×
    EffectsOk facts (literal_byte e.literal + 1) es

-- a plan for m actions: at most 256 steps, each the number of an action
pub record PlanOk (m : ℕ) (steps : List ℕ) : Type 0 where
  pub count : length steps ≤ max_steps
  pub actions : Each (λ b. b < m) steps

module _ (F : Limits) where
  -- an action: its formulas are sound, and its effects within their limit
  pub record ActionOk (facts : ℕ) (a : Action) : Type 0 where
    pub precondition : FormulaOk facts a.precondition
    pub count : length a.effects ≤ F.effects
    pub effects : EffectsOk facts 0 a.effects

  -- sound blocks: a problem: its counts, and its block's bytes, are within their limits
  pub record ProblemOk (p : Problem) : Type 0 where
    pub some_fact : 1 ≤ p.facts
    pub facts : p.facts ≤ F.facts
    pub count : length p.actions ≤ max_actions
    pub initial : FormulaOk p.facts p.initial
    pub goal : FormulaOk p.facts p.goal
    pub actions : Each (ActionOk p.facts) p.actions
    pub short : length (encode_problem F p) ≤ max_problem_bytes

  -- a task of the version, as every reader gives it
  pub record TaskOk (T : Task) : Type 0 where
    pub facts : T.facts ≤ F.facts
    pub width : T.width ≡ F.width

  -- what was read is one, if it is a task
  abbrev pub ReadOk : Answer Task → Type 0
  ReadOk R = (T : Task) → R ≡ answered T → TaskOk T

  -- a line's parts fit their bytes
  pub record LineOk (l : Line) : Type 0 where
    pub kind : l.kind < 256
    pub k : l.k < 256
    pub value : l.value < 256 ^ (F.line - 2)

  pub record ListOk (ls : List Line) : Type 0 where
    pub count : length ls ≤ F.lines
    pub lines : Each LineOk ls

  -- what the layouts need of a version's numbers: it is one of the versions, a literal, a mark and each count fit a byte, and a list's length its field
  pub record Sensible : Type 0 where
    pub version : is_version F.version ≡ true
    pub facts : F.facts ≤ max_facts
    pub effects : F.effects ≤ max_effects
    pub line : 2 < F.line
    pub lines : F.line * F.lines < 256 ^ 4
    -- a state has a bit for each fact, fits a word, and fills a line's bytes of values
    pub word : F.width ≤ 64
    pub width : F.facts ≤ F.width
    pub bits : F.width ≡ 8 * (F.line - 2)

-- passing lists: a line that fixes declared facts and has no bit set past them, and whose claim is so; a state is w bits wide and has n facts
pub record LineHolds (w : ℕ) (look : ℕ → ℕ → Look) (n : ℕ) (l : Line) : Type 0 where
  pub k_fits : l.k ≤ n
  pub no_bits : l.value % 2 ^ (w - l.k) ≡ 0
  pub claim : claims l.kind (look l.k l.value) ≡ true

-- the lines follow one another: the first begins at x, each other one where the one before ended, and the last ends at 2 ^ w
abbrev pub Joined : ℕ → List Line → ℕ → Type 0
Joined w [] x = x ≡ 2 ^ w
Joined w (l ∷ ls) x = (l.value ≡ x) × Joined w ls (x + 2 ^ (w - l.k))
