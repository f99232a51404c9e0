-- The set has the facts of the literals that were met.
use Rattle.backward.proofs.{Words.◌≡◌, Words.◌||◌, Words.ℕ, Words.◌<◌, Words.max_facts, Words.names, Words.formula, Words.literals_left, Words.has_fact, Naming.named_by}
use Rattle.backward.proofs.named.named_facts.Given as goal

abbrev pub invariant-loop-literal : goal.invariant-loop-literal
invariant-loop-literal l =
    (f : ℕ) → f < max_facts → names (formula l.formula) f ≡ (has_fact l.facts f || named_by (literals_left l.literal-iterator) f)
