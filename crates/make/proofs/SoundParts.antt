-- What a parser that succeeds gives, said of its value alone: of its parts, one after the other. Assumes nothing.
use Rattle.std.proofs.Common.{◌≡◌, refl, subst, Bool, true, false, cond, List, ℕ, Option, Some, None, arith}
use Rattle.words.specs.declared.complaint.Complaint.{Complaint}
use Rattle.make.specs.Parsed.{Parsed, bad, got, Parser, and_then, require, found}

-- what a parser that succeeds gives
pub record Gives {A : Type 0} (x : Parsed A) (P : A → Type 0) : Type 0 where
  pub of : (a : A) (left : List ℕ) → x ≡ got a left → P a

same-value : {A : Type 0} {a b : A} {t u : List ℕ} → got a t ≡ got b u → a ≡ b
same-value h = cc

then-got :
    {A B C : Type 0} {x : Parsed A} {k : A → Parser B} {b : B} {u : List ℕ} → and_then x k ≡ got b u →
    ((a : A) (t : List ℕ) → x ≡ got a t → k a t ≡ got b u → C) → C
unfolding and_then
then-got h f = grind arith

module _ {B : Type 0} {Q : B → Type 0} where
  pub gives : {b : B} {t : List ℕ} → Q b → Gives (got b t) Q
  gives x = record { of = λ a u e. subst Q (same-value e) x }

  pub fails : {c : Complaint} {q : ℕ} → Gives (bad c q) Q
  fails = record { of = λ a u e. absurd (grind arith) }

  -- one parser after the other
  pub reads :
      {A : Type 0} {P : A → Type 0} {x : Parsed A} {k : A → Parser B} → Gives x P →
      ((a : A) (t : List ℕ) → P a → Gives (k a t) Q) → Gives (and_then x k) Q
  reads f g = record { of = λ b u e. then-got e λ a t e₁ e₂. (g a t (f.of a t e₁)).of b u e₂ }

  -- the same, where nothing is asked of the first one's value
  pub skips : {A : Type 0} (x : Parsed A) {k : A → Parser B} → ((a : A) (t : List ℕ) → Gives (k a t) Q) → Gives (and_then x k) Q
  skips x g = record { of = λ b u e. then-got e λ a t e₁ e₂. (g a t).of b u e₂ }

  -- a parser that ends with another
  pub ends : {P : B → Type 0} {x : Parsed B} → Gives x P → ((b : B) → P b → Q b) → Gives x Q
  ends f g = record { of = λ b u e. g b (f.of b u e) }

  -- a test that a parser asks for
  pub tests :
      (test : Bool) (c : Complaint) (place : ℕ) (t : List ℕ) (k : Unit {0} → Parser B) → (test ≡ true → Gives (k tt t) Q) →
      Gives (and_then (require test c place t) k) Q
  unfolding and_then require
  tests true c place t k f = f refl
  tests false c place t k f = fails

  -- a value that there has to be
  pub finds :
      {A : Type 0} (o : Option A) (c : Complaint) (place : ℕ) (t : List ℕ) (k : A → Parser B) →
      ((a : A) → o ≡ Some a → Gives (k a t) Q) → Gives (and_then (found o c place t) k) Q
  unfolding and_then found
  finds None c place t k f = fails
  finds (Some a) c place t k f = f a refl

  -- the same at the end
  pub found-gives :
      (o : Option B) (c : Complaint) (place : ℕ) (t : List ℕ) → ((b : B) → o ≡ Some b → Q b) →
      Gives (found o c place t) Q
  unfolding found
  found-gives None c place t f = fails
  found-gives (Some b) c place t f = gives (f b refl)

  -- two ways to go on
  pub either-way : (test : Bool) (x y : Parsed B) → (test ≡ true → Gives x Q) → (test ≡ false → Gives y Q) → Gives (cond test x y) Q
  either-way true x y f g = f refl
  either-way false x y f g = g refl
