use Rattle.std.proofs.Common.{◌≡◌, ℕ, ◌<◌, false, List, get_or, Bor}
use Rattle.std.specs.Str.{bytes_eq}
use Rattle.make.proofs.formulas.index_of.Given as goal

abbrev pub invariant-loop-index : goal.invariant-loop-index
invariant-loop-index l = (k : ℕ) (d : Bor (List ℕ)) → k < l.index → bytes_eq (get_or l.names k d).now l.word ≡ false
