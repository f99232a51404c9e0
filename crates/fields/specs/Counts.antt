-- What the header's functions answer.
use Rattle.std.specs.Prelude.{◌≡◌, List, ℕ, ◌+◌, ◌≤◌, ◌<◌, length, Result, Ok, Err, IfOk}
use Rattle.model.specs.Read.{Read, got, count}
use Rattle.formula.specs.Readings.{rejected}
use Rattle.model.specs.declared.Refusal.{Refusal}

-- a count at p
abbrev pub count_of : ℕ → Result ℕ Refusal → Read ℕ
count_of p (Err r) = rejected r
count_of p (Ok n) = got n (p + 1)

abbrev pub Bounded : ℕ → ℕ → Result ℕ Refusal → Type 0
Bounded low high (Err r) = Unit {0}
Bounded low high (Ok n) = (low ≤ n) × (n ≤ high)

pub record Counts (s : List ℕ) (number low high p : ℕ) (r : Result ℕ Refusal) : Type 0 where
  pub is : count_of p r ≡ count s number low high p
  pub bounded : Bounded low high r
  pub inside : IfOk r (λ n. p < length s)
