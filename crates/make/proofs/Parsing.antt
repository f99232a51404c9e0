-- What parsers give, and what the code answers.
use Rattle.std.proofs.Common.{◌≡◌, ℕ, List, [], ◌∷◌, ◌++◌, append_assoc, Bool, true, false, not, Option, Some, None, option_map, Result, Err, refl, sym, ap, ◌∙◌, subst}
use Rattle.std.proofs.lemmas.Result.{err_from_is_err_and}
use Rattle.std.specs.Str.{bytes_eq}
use Rattle.std.specs.Result.{IsErrAnd}
use Rattle.make.specs.Parsed.{Parsed, bad, got}
use Rattle.words.specs.declared.complaint.Complaint.{Complaint}
use Rattle.words.specs.declared.complaint.MakeError.{MakeError}
use Rattle.words.specs.declared.complaint.MakeError.TheVariants.{Text, OutOfMemory}
use Rattle.make.specs.Reads.{Gives, Reads}

-- what is given, with a function of the value
abbrev pub mapped : {A B : Type 0} → (A → B) → Parsed A → Parsed B
mapped f (bad c q) = bad c q
mapped f (got a t) = got (f a) t

-- what a parser of lists gives after these values
abbrev pub after : {A : Type 0} → List A → Parsed (List A) → Parsed (List A)
after xs r = mapped (λ ys. xs ++ ys) r

pub after-none : {A : Type 0} (r : Parsed (List A)) → r ≡ after [] r
after-none (bad c q) = refl
after-none (got a t) = refl

pub after-more : {A : Type 0} (xs : List A) (x : A) (r : Parsed (List A)) → after xs (after (x ∷ []) r) ≡ after (xs ++ (x ∷ [])) r
after-more xs x (bad c q) = refl
after-more xs x (got ys t) = ap (λ zs. got zs t) (sym (append_assoc xs (x ∷ []) ys))

-- an error of one parser is that of another, where what is wrong in the one is wrong in the other
pub passed :
    {A B V W : Type 0} (r : Parsed A) (s : Parsed B) (left u : List ℕ) (Is : A → V → Type 0) (Js : B → W → Type 0) (e : MakeError) →
    ((c : Complaint) (q : ℕ) → r ≡ bad c q → s ≡ bad c q) → Reads r (Err e) left Is → Reads s (Err e) u Js
passed r s left u Is Js (Text c q) same wrong = same c q wrong
passed r s left u Is Js OutOfMemory same wrong = tt

-- an error that is told where a word stands
pub wrong_at :
    {A V : Type 0} (r : Parsed A) (u : List ℕ) (Is : A → V → Type 0) (e : MakeError) (c : Complaint) (p q : ℕ) →
    r ≡ bad c p → e ≡ Text c q → q ≡ p → Reads r (Err e) u Is
wrong_at r u Is e c p q wrong is place = subst (λ x. Reads r (Err x) u Is) (sym is) (wrong ∙ ap (bad c) (sym place))

-- an option's value, where a function of it is known
pub some_of : {A B : Type 0} (f : A → B) (o : Option A) (b : B) → option_map f o ≡ Some b → (a : A) × (o ≡ Some a) × (b ≡ f a)
some_of f None b e = absurd cc
some_of f (Some a) b e = (a, refl, cc)

pub none_of : {A B : Type 0} (f : A → B) (o : Option A) → option_map f o ≡ None → o ≡ None
none_of f None e = refl
none_of f (Some a) e = absurd cc

-- what the code answers of a value, it answers of a function of it
module _ {A B V W : Type 0} (f : A → B) (r : Parsed B) (s : Parsed A) (left : List ℕ) (Is : A → V → Type 0) (Js : B → W → Type 0) (same : r ≡ mapped f s) where
  pub gives : (v : V) (w : W) → Gives s v left Is → ((a : A) → Is a v → Js (f a) w) → Gives r w left Js
  gives v w given is = record { value = f given.value; read = same ∙ ap (mapped f) given.read; is = is given.value given.is }

  pub fails : (e : MakeError) (u : List ℕ) → Reads s (Err e) left Is → Reads r (Err e) u Js
  fails (Text c q) u wrong = same ∙ ap (mapped f) wrong
  fails OutOfMemory u wrong = tt

-- what the exit of a `?` returns
pub returned : {T E : Type 0} {e : E} (r : Result T E) → IsErrAnd r (λ y. y ≡ e) → r ≡ Err e
returned r h = let p = err_from_is_err_and r h in p.1 ∙ ap Err p.2

-- what a test of a word says of it
pub equal : (x y k : List ℕ) (r b : Bool) → r ≡ bytes_eq x y → r ≡ b → y ≡ k → bytes_eq x k ≡ b
equal x y k r b test is key = subst (λ z. bytes_eq x z ≡ b) key (sym test ∙ is)

negated : (a r b : Bool) → r ≡ not a → r ≡ not b → a ≡ b
negated true r true e f = refl
negated false r false e f = refl
negated true r false e f = absurd cc
negated false r true e f = absurd cc

pub unequal : (x y k : List ℕ) (r b : Bool) → r ≡ not (bytes_eq x y) → r ≡ not b → y ≡ k → bytes_eq x k ≡ b
unequal x y k r b test is key = subst (λ z. bytes_eq x z ≡ b) key (negated (bytes_eq x y) r b test is)
