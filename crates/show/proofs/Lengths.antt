-- How long the texts are at most. A literal of one byte is a name of 255 bytes, after a mark and a blank: 257 bytes of text for each byte of a block.
-- Assumes nothing.
use Rattle.std.proofs.Common.{◌≡◌, refl, Bool, true, false, cond, List, [], ◌∷◌, ◌++◌, ℕ, zero, suc, ◌+◌, ◌-◌, ◌*◌, ◌≤◌, ◌<◌, length, get_or, eqb, leb-true, length-append, codes, decimal, arith}
use Rattle.std.proofs.lemmas.Bool.{and_parts}
use Rattle.std.proofs.lemmas.Fmt.{decimal_digit}
use Rattle.model.specs.declared.Limits.{Limits}
use Rattle.model.specs.Limits.{version1, version2, limits_of}
use Rattle.model.specs.Formula.{Literal, fact, denial, Formula, Formulas, lit, all, any, none, more}
use Rattle.model.specs.Action.{Effect, Action}
use Rattle.model.specs.FormulaBytes.{formula_bytes, member_bytes, encode_formula}
use Rattle.model.specs.ProblemBytes.{Problem, effects_bytes, action_bytes, actions_bytes}
use Rattle.model.specs.WellFormed.{Declared, Formed, FormedAll, EffectsOk, ActionOk, ProblemOk, Each}
use Rattle.model.proofs.Guarantees.{guarantees-of}
use Rattle.model.proofs.Laws.Reading.{length-bytes_of}
use Rattle.blocks.proofs.Sizes.{encoded-size}
use Rattle.names.specs.Names.{Names, Named, NamesOk, is_name, name_of, max_name_bytes}
use Rattle.names.specs.Texts.{fact_name, action_name, literal_text, formula_text, members_text}
use Rattle.names.specs.ProblemText.{is_always, unless_always, facts_text, literal_set, effects_text, needs_text, actions_text, problem_text, steps_text, plan_text}
use Rattle.show.specs.TextLength.{ProblemIsShort, PlanIsShort, max_problem_text}

-- the first n names are that short
abbrev Short : ℕ → List (List ℕ) → Type 0
Short n names = (i : ℕ) → i < n → length (name_of names i) ≤ max_name_bytes

name-short : (w : List ℕ) → is_name w ≡ true → length w ≤ max_name_bytes
name-short [] h = omega arith
name-short (b ∷ w) h = leb-true (length (b ∷ w)) max_name_bytes (and_parts _ _ (and_parts _ _ h).1).0

named-short : (n : ℕ) (names : List (List ℕ)) → Named n names → Short n names
named-short n names named i l = name-short (name_of names i) (named.sound i l)

-- the bytes of a formula that stands after its length
field-length : (f : Formula) → length (encode_formula f) ≡ 2 + length (formula_bytes f)
unfolding encode_formula
field-length f = rw (length-append, length-bytes_of) refl

module _ (N : Names) (n : ℕ) (short : Short n N.facts) where
  literal-length : (l : Literal) → Declared n l → length (literal_text N l) ≤ 256
  literal-length (fact f) d = omega (arith, short f d)
  literal-length (denial f) d = omega (arith, short f d)

  mutual
    unfolding Formed formula_text formula_bytes

    formula-length : (f : Formula) (left parent : ℕ) → Formed n left parent f → length (formula_text N f) + 1 ≤ 257 * length (formula_bytes f)
    formula-length (lit l) left parent d = omega (arith, literal-length l d)
    formula-length (all ms) left parent d = omega (arith, members-length ms (left - 1) 0x80 d.3)
    formula-length (any ms) left parent d = omega (arith, members-length ms (left - 1) 0x81 d.3)

    members-length : (ms : Formulas) (left parent : ℕ) → FormedAll n left parent ms → length (members_text N ms) ≤ 257 * length (member_bytes ms) + 2
    members-length none left parent d = omega arith
    members-length (more m ms) left parent d =
        let text = length-append (formula_text N m) (members_text N ms) in
        let bytes = length-append (formula_bytes m) (member_bytes ms) in
        omega (arith, text, bytes, formula-length m left parent d.0, members-length ms left parent d.1)

  -- a formula that is left out where it is always true
  unless-length :
      (word : List ℕ) (f : Formula) (left parent : ℕ) → Formed n left parent f →
      length (unless_always N word f) + 1 ≤ length word + 257 * length (formula_bytes f)
  unfolding unless_always
  unless-length word f left parent d = by-test (is_always f)
    where
      by-test : (b : Bool) → length (cond b [] (word ++ formula_text N f)) + 1 ≤ length word + 257 * length (formula_bytes f)
      by-test true = omega (arith, formula-length f left parent d)
      by-test false = omega (arith, formula-length f left parent d, length-append word (formula_text N f))

  needs-length : (f : Formula) (left parent : ℕ) → Formed n left parent f → length (needs_text N f) ≤ 8 + 257 * length (formula_bytes f)
  unfolding needs_text
  needs-length f left parent d = by-test (is_always f)
    where
      by-test : (b : Bool) → length (cond b [] (codes "  needs " ++ (formula_text N f ++ (10 ∷ [])))) ≤ 8 + 257 * length (formula_bytes f)
      by-test true = omega arith
      by-test false = omega (arith, formula-length f left parent d, length-append (formula_text N f) (10 ∷ []))

  set-length : (l : Literal) → Declared n l → length (literal_set N l) ≤ 264
  set-length (fact f) d = omega (arith, short f d)
  set-length (denial f) d = omega (arith, short f d)

  effects-length : (es : List Effect) (least : ℕ) → EffectsOk n least es → length (effects_text N es) ≤ 257 * length (effects_bytes es)
  unfolding effects_text effects_bytes
  effects-length [] least d = omega arith
  effects-length (e ∷ es) least d =
      let text = length-append (literal_set N e.literal) (unless_always N (codes " if ") e.condition ++ (10 ∷ effects_text N es)) in
      let condition = length-append (unless_always N (codes " if ") e.condition) (10 ∷ effects_text N es) in
      let bytes = length-append (encode_formula e.condition) (effects_bytes es) in
      let when = unless-length (codes " if ") e.condition _ _ d.2.formed in
      omega (arith, text, condition, bytes, field-length e.condition, set-length e.literal d.0, when, effects-length es _ d.3)

  facts-length : (f k : ℕ) → f + k ≤ n → length (facts_text N f k) ≤ 261 * k
  unfolding facts_text
  facts-length f zero l = omega arith
  facts-length f (suc k) l =
      omega (arith, short f (omega arith), facts-length (suc f) k (omega arith), length-append (fact_name N f) (10 ∷ facts_text N (suc f) k))

  module _ (F : Limits) (m : ℕ) (few : Short m N.actions) where
    actions-length :
        (as' : List Action) (i : ℕ) → i + length as' ≤ m → Each (ActionOk F n) as' → length (actions_text N i as') ≤ 257 * length (actions_bytes as')
    unfolding actions_text actions_bytes action_bytes
    actions-length [] i l d = omega arith
    actions-length (a ∷ as') i l d =
        let name = length-append (action_name N i) (10 ∷ (needs_text N a.precondition ++ (effects_text N a.effects ++ actions_text N (suc i) as'))) in
        let needs = length-append (needs_text N a.precondition) (effects_text N a.effects ++ actions_text N (suc i) as') in
        let lines = length-append (effects_text N a.effects) (actions_text N (suc i) as') in
        let bytes = length-append (action_bytes a) (actions_bytes as') in
        let parts = length-append (encode_formula a.precondition) (length a.effects ∷ effects_bytes a.effects) in
        let asked = needs-length a.precondition _ _ d.0.precondition.formed in
        let done = effects-length a.effects _ d.0.effects in
        omega (arith, name, needs, lines, bytes, parts, field-length a.precondition, few i (omega arith), asked, done, actions-length as' (suc i) (omega arith) d.1)

-- the version's number has one digit
version-length : (block : List ℕ) → length (decimal (limits_of block).version) ≡ 1
version-length block = of-version (eqb (get_or block 0 0) 2)
  where
    of-version : (b : Bool) → length (decimal (cond b version2 version1).version) ≡ 1
    of-version true = rw (decimal_digit 2 (omega arith)) refl
    of-version false = rw (decimal_digit 1 (omega arith)) refl

module _ (N : Names) (F : Limits) (p : Problem) (ok : ProblemOk F p) (names : NamesOk N p.facts (length p.actions)) (few : F.facts ≤ 64) where
  -- the text by its parts
  problem-length : length (decimal F.version) ≡ 1 → length (problem_text N F p) ≤ max_problem_text
  unfolding problem_text
  problem-length version =
      let short = named-short p.facts N.facts names.facts in
      let actions = actions_text N 0 p.actions in
      let goal = codes "goal " ++ (formula_text N p.goal ++ (10 ∷ actions)) in
      let start = codes "start " ++ (formula_text N p.initial ++ (10 ∷ goal)) in
      let a = length-append (decimal F.version) (10 ∷ (facts_text N 0 p.facts ++ start)) in
      let b = length-append (facts_text N 0 p.facts) start in
      let c = length-append (formula_text N p.initial) (10 ∷ goal) in
      let d = length-append (formula_text N p.goal) (10 ∷ actions) in
      omega (
        arith,
        version,
        a,
        b,
        c,
        d,
        few,
        ok.facts,
        ok.short,
        encoded-size F p,
        facts-length N p.facts short 0 p.facts (omega arith),
        formula-length N p.facts short p.initial _ _ ok.initial.formed,
        formula-length N p.facts short p.goal _ _ ok.goal.formed,
        actions-length N p.facts short F (length p.actions) (named-short (length p.actions) N.actions names.actions) p.actions 0 (omega arith) ok.actions,
      )

few-facts : (block : List ℕ) → (limits_of block).facts ≤ 64
few-facts block = of-version (eqb (get_or block 0 0) 2)
  where
    of-version : (b : Bool) → (cond b version2 version1).facts ≤ 64
    of-version true = omega arith
    of-version false = omega arith

pub problem-is-short : ProblemIsShort
problem-is-short N block p bytes e names =
    let (ok, _) = (guarantees-of block).all_input.problem_sound block bytes p e in
    problem-length N (limits_of block) p ok names (few-facts block) (version-length block)

module _ (N : Names) (m : ℕ) (few : Short m N.actions) where
  steps-length : (bs : List ℕ) → Each (λ b. b < m) bs → length (steps_text N bs) ≤ 258 * length bs
  unfolding steps_text
  steps-length [] d = omega arith
  steps-length (b ∷ bs) d = omega (arith, few b d.0, steps-length bs d.1, length-append (action_name N b) (10 ∷ steps_text N bs))

pub plan-is-short : PlanIsShort
unfolding plan_text
plan-is-short N plan facts actions steps bytes e names =
    let (ok, _) = (guarantees-of plan).all_input.plan_sound plan bytes actions steps e in
    omega (arith, ok.count, steps-length N actions (named-short actions N.actions names.actions) steps ok.actions)
