-- What a call gives: a refusal, or its answer.
use Rattle.std.specs.Prelude.{ℕ}

infixl 20 ◌>>=◌
-- refusals: a refusal says by number what is wrong, and by place where
pub data Answer (A : Type 0) : Type 0 where
  refused : ℕ → ℕ → Answer A
  answered : A → Answer A

-- one reading after another: the first fault is the answer, and there is an answer where there is no fault
unfoldable pub ◌>>=◌ : {A B : Type 0} → Answer A → (A → Answer B) → Answer B
refused n q >>= f = refused n q
answered a >>= f = f a
