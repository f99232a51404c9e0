-- What is known of a reader by the next position that it gives, or its refusal. Assumes nothing.
use Rattle.std.proofs.Common.{◌≡◌, refl, ap, ◌∙◌, ℕ, Result, Err, IsErrAnd, arith}
use Rattle.std.proofs.lemmas.Result.{err_from_is_err_and}
use Rattle.model.specs.Read.{Read, reject, got, Reader, and_then}
use Rattle.formula.specs.Readings.{forgotten}

-- a step that only makes something of what was read
pub then_next : {A B : Type 0} (x : Read A) (f : A → B) → forgotten (and_then x (λ a p. got (f a) p)) ≡ forgotten x
unfolding and_then forgotten
then_next (reject n q) f = refl
then_next (got a p) f = refl

-- one reader after the other, where of the first only the position counts
abbrev pub onto : (ℕ → Read (Unit {0})) → Read (Unit {0}) → Read (Unit {0})
onto f (reject n q) = reject n q
onto f (got a q) = f q

pub then-onto :
    {A B : Type 0} (x : Read A) (k : A → Reader B) (f : ℕ → Read (Unit {0})) → ((a : A) (q : ℕ) → f q ≡ forgotten (k a q)) →
    onto f (forgotten x) ≡ forgotten (and_then x k)
unfolding and_then forgotten
then-onto (reject n q) k f h = refl
then-onto (got a q) k f h = h a q

module _ {A : Type 0} where
  pub record Got (x : Read A) (q : ℕ) : Type 0 where
    pub value : A
    pub is : x ≡ got value q

  pub next-got : (x : Read A) (q : ℕ) → got tt q ≡ forgotten x → Got x q
  unfolding forgotten
  next-got (reject n k) q h = let z : ◌≡◌ {A = ℕ} 0 1 = cc in absurd (omega arith)
  next-got (got a k) q h = record { value = a; is = cc }

  pub next-refused : (x : Read A) (n k : ℕ) → reject n k ≡ forgotten x → x ≡ reject n k
  unfolding forgotten
  next-refused (reject m j) n k h = cc
  next-refused (got a q) n k h = let z : ◌≡◌ {A = ℕ} 0 1 = cc in absurd (omega arith)

-- what the exit of a `?` returns
pub returned : {T E : Type 0} {e : E} (r : Result T E) → IsErrAnd r (λ y. y ≡ e) → r ≡ Err e
returned r h = let p = err_from_is_err_and r h in p.1 ∙ ap Err p.2
