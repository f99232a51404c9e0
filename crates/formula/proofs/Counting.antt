-- How many bytes formulas take: as many as those that they were read from. Assumes nothing.
use Rattle.std.proofs.Common.{◌≡◌, refl, ap, ◌∙◌, Bool, true, false, cond, List, [], ◌∷◌, ℕ, zero, suc, ◌+◌, arith, length, length-append, ltb}
use Rattle.model.specs.Formula.{Formulas, lit, none, more}
use Rattle.model.specs.FormulaBytes.{Group, conjunction, disjunction, grouped, literal_of, member_count, formula_bytes, member_bytes}
use Rattle.formula.specs.Decoding.{first, after, marked, gathered, decode, head}
use Rattle.formula.proofs.Decoding.{alone}

bytes-split : (n : ℕ) (ms : Formulas) → length (member_bytes (first n ms)) + length (member_bytes (after n ms)) ≡ length (member_bytes ms)
unfolding member_bytes
bytes-split zero ms = omega arith
bytes-split (suc n) none = refl
bytes-split (suc n) (more m ms) =
    let l = length-append (formula_bytes m) (member_bytes (first n ms)) in
    let r = length-append (formula_bytes m) (member_bytes ms) in
    omega (arith, l, r, bytes-split n ms)

group-length : (g : Group) (ms : Formulas) → length (formula_bytes (grouped g ms)) ≡ 2 + length (member_bytes ms)
unfolding formula_bytes
group-length conjunction ms = omega arith
group-length disjunction ms = omega arith

gathered-length : (b n : ℕ) (ms : Formulas) → length (member_bytes (gathered b n ms)) ≡ 2 + length (member_bytes ms)
unfolding member_bytes
gathered-length b n ms =
    let g = group-length (marked b) (first n ms) in
    let l = length-append (formula_bytes (grouped (marked b) (first n ms))) (member_bytes (after n ms)) in
    omega (arith, g, l, bytes-split n ms)

leaf-length : (b : ℕ) (ms : Formulas) → length (member_bytes (more (lit (literal_of b)) ms)) ≡ suc (length (member_bytes ms))
unfolding member_bytes formula_bytes
leaf-length b ms = refl

pub bytes_length : (s : List ℕ) → length (member_bytes (decode s)) ≡ length s
unfolding decode member_bytes
bytes_length [] = refl
bytes_length (b ∷ []) = leaf-length b none
bytes_length (b ∷ n ∷ s) = by-mark (ltb b 128) (bytes_length (n ∷ s)) (bytes_length s)
  where
    by-mark :
        (t : Bool) → length (member_bytes (decode (n ∷ s))) ≡ suc (length s) → length (member_bytes (decode s)) ≡ length s →
        length (member_bytes (cond t (more (lit (literal_of b)) (decode (n ∷ s))) (gathered b n (decode s)))) ≡ suc (suc (length s))
    by-mark true e h = leaf-length b (decode (n ∷ s)) ∙ ap suc e
    by-mark false e h = omega (arith, gathered-length b n (decode s), h)

pub alone_length : (s : List ℕ) → member_count (decode s) ≡ 1 → length (formula_bytes (head (decode s))) ≡ length s
unfolding member_bytes
alone_length s e =
    let one = ap (λ (x : Formulas). length (member_bytes x)) (alone (decode s) e) in
    let l = length-append (formula_bytes (head (decode s))) (member_bytes none) in
    omega (arith, one, l, bytes_length s)
