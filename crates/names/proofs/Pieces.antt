-- A text that is written piece by piece: what is written, and then what is left of it, is the whole.
use Rattle.std.proofs.Common.{◌≡◌, sym, ap, ◌∙◌, refl, cond, List, [], ◌∷◌, ◌++◌, ℕ, Result, Ok, Err, OnOk}
use Rattle.std.proofs.lemmas.List.{append_assoc, append-nil}
use Rattle.std.proofs.lemmas.Result.{on_ok_weaker}
use Rattle.std.specs.Result.{is_ok}

-- ---- in a loop

-- one piece more is written
pub one-piece :
    (out new left piece rest all : List ℕ) → out ++ left ≡ all → left ≡ piece ++ rest → new ≡ out ++ piece →
    new ++ rest ≡ all
one-piece out new left piece rest all e f g = ap (λ x. x ++ rest) g ∙ append_assoc out piece rest ∙ ap (λ x. out ++ x) (sym f) ∙ e

-- nothing is left
pub all-written : (out left all : List ℕ) → out ++ left ≡ all → left ≡ [] → out ≡ all
all-written out left all e f = sym (append-nil out) ∙ ap (λ x. out ++ x) (sym f) ∙ e

-- ---- one call after the other

-- the pieces in one text
abbrev pub joined : List (List ℕ) → List ℕ
joined [] = []
joined (p ∷ ps) = p ++ joined ps

-- after `out`, so many pieces make up `all`
pub record Left (all out : List ℕ) (pieces : List (List ℕ)) : Type 0 where
  pub is : out ++ joined pieces ≡ all

pub all-left : (out text : List ℕ) (ps : List (List ℕ)) → text ≡ joined ps → Left (out ++ text) out ps
all-left out text ps e = record { is = ap (λ x. out ++ x) (sym e) }

pub next-piece : (all out new p : List ℕ) (ps : List (List ℕ)) → Left all out (p ∷ ps) → new ≡ out ++ p → Left all new ps
next-piece all out new p ps l g = record { is = ap (λ x. x ++ joined ps) g ∙ append_assoc out p (joined ps) ∙ l.is }

-- the last piece is written, where a function ensures it, and where `push_str` does
last : (all out p : List ℕ) → Left all out (p ∷ []) → out ++ p ≡ all
last all out p l = ap (λ x. out ++ x) (sym (append-nil p)) ∙ l.is

pub last-piece :
    {E : Type 0} (r : Result (Unit {0}) E) (all out new p : List ℕ) → Left all out (p ∷ []) → OnOk r (new ≡ out ++ p) →
    OnOk r (new ≡ all)
last-piece r all out new p l h = on_ok_weaker r (λ g. g ∙ last all out p l) h

pub last-text :
    {E : Type 0} (r : Result (Unit {0}) E) (all out new p : List ℕ) → Left all out (p ∷ []) → new ≡ cond (is_ok r) (out ++ p) out →
    OnOk r (new ≡ all)
last-text (Ok u) all out new p l g = g ∙ last all out p l
last-text (Err x) all out new p l g = tt

-- ---- the text after three pieces, and after five

pub after-three : (a b c t : List ℕ) → a ++ (b ++ (c ++ t)) ≡ (a ++ (b ++ c)) ++ t
after-three a b c t = rw (append_assoc a (b ++ c) t, append_assoc b c t) refl

pub after-five : (a b c d e t : List ℕ) → a ++ (b ++ (c ++ (d ++ (e ++ t)))) ≡ (a ++ (b ++ (c ++ (d ++ e)))) ++ t
after-five a b c d e t = rw (append_assoc a (b ++ (c ++ (d ++ e))) t, append_assoc b (c ++ (d ++ e)) t, append_assoc c (d ++ e) t, append_assoc d e t) refl
