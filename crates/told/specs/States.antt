-- A state as text.
use Rattle.std.specs.Prelude.{Bool, cond, List, [], ◌∷◌, ◌++◌, ℕ, zero, suc, length, eqb, codes}
use Rattle.model.specs.declared.Limits.{Limits}
use Rattle.model.specs.Case.{bit}
use Rattle.model.specs.DeskText.{marks}
use Rattle.names.specs.Names.{Names}
use Rattle.names.specs.Texts.{fact_name}

module _ (N : Names) where
  -- the facts f, f + 1, .., so many, of which `holds` is true, each with a space before it
  unfoldable pub true_facts : (ℕ → Bool) → ℕ → ℕ → List ℕ
  true_facts holds f zero = []
  true_facts holds f (suc n) = cond (holds f) (32 ∷ fact_name N f) [] ++ true_facts holds (suc f) n

  -- a state of n facts by its number: a mark for each fact, or the names of the true ones where facts have names, as in "{ a c }"
  unfoldable pub state_text : Limits → ℕ → ℕ → List ℕ
  state_text F n s = cond (eqb (length N.facts) 0) (marks F.width n n s) (123 ∷ (true_facts (bit F.width s) 0 n ++ codes " }"))
