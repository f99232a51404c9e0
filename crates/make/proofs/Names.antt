-- The number of a name, as a look-up from the first name on finds it.
use Rattle.std.proofs.Common.{◌≡◌, ℕ, zero, suc, ◌<◌, List, [], ◌∷◌, map, length, get_or, true, false, Some, None, Bor, refl, ap, arith}
use Rattle.std.specs.Str.{bytes_eq}
use Rattle.make.specs.FormulaText.{one_more, index_of}

-- the first name that is the word
pub index_of-first :
    (ns : List (Bor (List ℕ))) (w : List ℕ) (i : ℕ) (d : Bor (List ℕ)) → i < length ns →
    ((k : ℕ) (e : Bor (List ℕ)) → k < i → bytes_eq (get_or ns k e).now w ≡ false) → bytes_eq (get_or ns i d).now w ≡ true →
    index_of (map (λ s. s.now) ns) w ≡ Some i
unfolding index_of
index_of-first [] w i d less before here = absurd (omega arith)
index_of-first (n ∷ ns) w zero d less before here = rw here refl
index_of-first (n ∷ ns) w (suc i) d less before here =
    rw (before 0 n (omega arith)) (ap one_more (index_of-first ns w i d (omega arith) (λ k e l. before (suc k) e (omega arith)) here))

-- no name is the word
pub index_of-none :
    (ns : List (Bor (List ℕ))) (w : List ℕ) →
    ((k : ℕ) (e : Bor (List ℕ)) → k < length ns → bytes_eq (get_or ns k e).now w ≡ false) → index_of (map (λ s. s.now) ns) w ≡ None
unfolding index_of
index_of-none [] w none = refl
index_of-none (n ∷ ns) w none = rw (none 0 n (omega arith)) (ap one_more (index_of-none ns w (λ k e l. none (suc k) e (omega arith))))
