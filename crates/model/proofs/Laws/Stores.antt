-- Runs of stores. Assumes nothing.
use lib.Seq.{sets, sets-eq}
use Rattle.model.proofs.Words.{◌≡◌, sym, ap, ◌∙◌, List, [], ◌∷◌, ◌++◌, append_assoc, ℕ, suc, ◌+◌, ◌≤◌, add-zero, arith, length, set, take, drop, drop-drop, put_mid}

-- one run of stores after another
pub sets-append : (vs ws l : List ℕ) (i : ℕ) → sets l i (vs ++ ws) ≡ sets (sets l i vs) (i + length vs) ws
sets-append [] ws l i = ap (λ (j : ℕ). sets l j ws) (sym (add-zero i))
sets-append (v ∷ vs) ws l i = grind (arith, (sets-append vs ws (set l i v) (suc i)))

-- a part of a buffer that was written
pub part-put : (at k : ℕ) (out part : List ℕ) → at + k ≤ length out → length part ≡ k → put_mid at k out part ≡ sets out at part
part-put at k out part h z =
    ap (λ (x : List ℕ). take at out ++ (part ++ x)) (drop-drop k at out) ∙ sym (append_assoc (take at out) part (drop (at + k) out)) ∙
    ap (λ (n : ℕ). (take at out ++ part) ++ drop (at + n) out) (sym z) ∙ sym (sets-eq part out at (omega (arith, z, h)))
