-- Texts that are put one after the other. Assumes nothing.
use Rattle.std.proofs.Common.{◌≡◌, ap, ◌∙◌, cond, List, [], ◌∷◌, ◌++◌, append_assoc, ℕ, Result, Ok, Err, OnOk, codes}
use Rattle.std.specs.Result.{is_ok}

-- one text more, and what is still to come
pub text-next : (was t rest : List ℕ) {now' whole : List ℕ} → now' ≡ was ++ t → was ++ (t ++ rest) ≡ whole → now' ++ rest ≡ whole
text-next was t rest e h = ap (λ (s : List ℕ). s ++ rest) e ∙ append_assoc was t rest ∙ h

-- one text more, and a last one, for which there may be no room
pub last-text :
    {T E : Type 0} (r : Result T E) (was t rest last : List ℕ) {now' whole : List ℕ} →
    now' ≡ was ++ t → was ++ (t ++ rest) ≡ whole → OnOk r (last ≡ now' ++ rest) → OnOk r (last ≡ whole)
last-text (Ok x) was t rest last e h o = o ∙ text-next was t rest e h
last-text (Err x) was t rest last e h o = tt

-- a last one alone
pub on-ok : {T E : Type 0} (r : Result T E) (now' : List ℕ) {text whole : List ℕ} → text ≡ whole → OnOk r (now' ≡ text) → OnOk r (now' ≡ whole)
on-ok (Ok x) now' e o = o ∙ e
on-ok (Err x) now' e o = tt

-- what a `push_str` says
pub on-push : {T E : Type 0} (r : Result T E) (was t : List ℕ) {now' : List ℕ} → now' ≡ cond (is_ok r) (was ++ t) was → OnOk r (now' ≡ was ++ t)
on-push (Ok x) was t e = e
on-push (Err x) was t e = tt

-- the first line, and the steps
pub start-text :
    (was state steps : List ℕ) →
    (was ++ (codes "start: " ++ (state ++ (10 ∷ [])))) ++ steps ≡ was ++ (codes "start: " ++ (state ++ (10 ∷ steps)))
start-text was state steps =
    append_assoc was (codes "start: " ++ (state ++ (10 ∷ []))) steps ∙
    ap (λ (t : List ℕ). was ++ (codes "start: " ++ t)) (append_assoc state (10 ∷ []) steps)
