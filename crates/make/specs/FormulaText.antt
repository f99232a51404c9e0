-- Formulas and effects in a text.
use Rattle.std.specs.Prelude.{cond, not, List, [], ◌∷◌, ℕ, zero, suc, length, eqb, leb, Option, Some, None, codes}
use Rattle.std.specs.Str.{bytes_eq}
use Rattle.model.specs.Limits.{max_formula_bytes, max_members, max_depth}
use Rattle.model.specs.Formula.{Literal, fact, denial, Formula, Formulas, lit, all, none, more}
use Rattle.model.specs.Action.{Effect}
use Rattle.model.specs.FormulaBytes.{Group, conjunction, disjunction, mark, grouped, literal_byte, formula_bytes}
use Rattle.words.specs.Words.{word, after_word, left_at}
use Rattle.names.specs.Names.{denial_mark}
use Rattle.make.specs.Parsed.{bad, got, Parser, and_then, ◌>>=◌, ◌>>◌, done, here, next, require, found}
use Rattle.words.specs.declared.complaint.Complaint.TheVariants.{UnknownFact, SameKind, NoBracket, TooDeep, TooManyMembers, FormulaTooLong, EffectOrder, TooManyEffects}

-- one more, where there is a number
abbrev pub one_more : Option ℕ → Option ℕ
one_more None = None
one_more (Some i) = Some (suc i)

abbrev pub as_literal : (ℕ → Literal) → Option ℕ → Option Literal
as_literal literal None = None
as_literal literal (Some f) = Some (literal f)

-- the number of a name: how many there are before it
unfoldable pub index_of : List (List ℕ) → List ℕ → Option ℕ
index_of [] w = None
index_of (n ∷ ns) w = cond (bytes_eq n w) (Some 0) (one_more (index_of ns w))

-- the group that a word begins
unfoldable pub group_word : List ℕ → Option Group
group_word w = cond (bytes_eq w (codes "all")) (Some conjunction) (cond (bytes_eq w (codes "any")) (Some disjunction) None)

module _ (facts : List (List ℕ)) where
  -- a fact's name, or that of the fact that is denied
  abbrev pub literal_named : List ℕ → Option Literal
  literal_named [] = None
  literal_named (b ∷ t) = cond (eqb b denial_mark) (as_literal denial (index_of facts t)) (as_literal fact (index_of facts (b ∷ t)))

  unfoldable pub leaf : Parser Formula
  leaf = do
    place ← here
    w ← next
    l ← found (literal_named w) UnknownFact place
    done (lit l)

  -- so many members at most, up to the closing bracket
  unfoldable pub members : Parser Formula → ℕ → Parser Formulas
  members one zero t = cond (bytes_eq (word t) (codes ")")) (got none (after_word t)) (bad TooManyMembers (left_at t))
  members one (suc n) t =
      cond (bytes_eq (word t) (codes ")"))
      (got none (after_word t))
      (and_then (one t) (λ m. members one n >>= (λ ms. done (more m ms))))

  -- a group that stands in one whose mark is `parent` (0: in none): its word, and its members in brackets
  unfoldable pub group : Group → ℕ → Parser Formula → Parser Formula
  group g parent inner = do
    place ← here
    require (not (eqb (mark g) parent)) SameKind place
    next
    opening ← here
    w ← next
    require (bytes_eq w (codes "(")) NoBracket opening
    ms ← members inner max_members
    done (grouped g ms)

  -- a group where one begins, else a literal
  unfoldable pub either : (Group → Parser Formula) → Option Group → Parser Formula
  either inner None = leaf
  either inner (Some g) = inner g

  -- formulas in a text: "all" and "any" with their members in brackets, a group in no group of its own kind, and 8 groups at most in one another
  unfoldable pub item : ℕ → ℕ → Parser Formula
  item zero parent t = either (λ g u. bad TooDeep (left_at u)) (group_word (word t)) t
  item (suc left) parent t = either (λ g. group g parent (item left (mark g))) (group_word (word t)) t

  unfoldable pub formula : Parser Formula
  formula = do
    place ← here
    f ← item max_depth 0
    require (leb (length (formula_bytes f)) max_formula_bytes) FormulaTooLong place
    done f

  -- the formula after a word, or one that is always true where the word does not stand
  unfoldable pub formula_after : List ℕ → Parser Formula
  formula_after key t = cond (bytes_eq (word t) key) (formula (after_word t)) (got (all none) t)

  -- what a word does to a fact
  abbrev pub verb : List ℕ → Option (ℕ → Literal)
  verb w = cond (bytes_eq w (codes "sets")) (Some fact) (cond (bytes_eq w (codes "clears")) (Some denial) None)

  -- an effect: what it does to which fact, and when. Its literal's byte is `least` or more.
  unfoldable pub effect : (ℕ → Literal) → ℕ → Parser Effect
  effect literal least = do
    next
    place ← here
    w ← next
    f ← found (index_of facts w) UnknownFact place
    require (leb least (literal_byte (literal f))) EffectOrder place
    c ← formula_after (codes "if")
    done (record { literal = literal f; condition = c })

  -- so many effects at most
  unfoldable pub effects_from : ((ℕ → Literal) → Parser (List Effect)) → Option (ℕ → Literal) → Parser (List Effect)
  effects_from some None = done []
  effects_from some (Some literal) = some literal

  unfoldable pub effects : ℕ → ℕ → Parser (List Effect)
  effects zero least t = effects_from (λ l u. bad TooManyEffects (left_at u)) (verb (word t)) t
  effects (suc n) least t =
      effects_from
      (λ literal.
      effect literal least >>= (λ e. effects n (suc (literal_byte e.literal)) >>= (λ es. done (e ∷ es))))
      (verb (word t))
      t
