-- A read into the rest of a buffer.
use Rattle.std.proofs.Common.{◌≡◌, ℕ, ◌+◌, ◌≤◌, List, ◌++◌, length, take, drop, sym, ap, ◌∙◌, subst, le_refl, drop_at, length-take-le}
use Rattle.std.specs.{declared.option.Option.Option, Io.KnownBytes.Consumes}
use Rattle.std.proofs.{KnownBytes.Consumes-trans, lemmas.Slice.take-put_mid_below}
use borrow.Rule.Slice.PartMut.{put_mid, post_of}
use lib.Seq.{take-add, take-append-le}

-- the n bytes that a read gave follow those that stood before it
pub Consumes-filled :
    (a b c : Option (List ℕ)) (done k n : ℕ) (buf part : List ℕ) → done ≤ length buf → n ≤ length part →
    Consumes a b (take done buf) → Consumes b c (take n part) → Consumes a c (take (done + n) (put_mid done k buf part))
Consumes-filled a b c done k n buf part within fits before read =
    let after = post_of done k buf in
    let filled = put_mid done k buf part in
    let front : take done filled ≡ take done buf = take-put_mid_below _ _ _ _ _ (le_refl _) within in
    let given : take n (drop done filled) ≡ take n part =
    ap (take n) (drop_at (take done buf) (part ++ after) done (length-take-le done buf within)) ∙ take-append-le n part after fits in
    let joined = take-add done n filled ∙ ap (λ l. l ++ take n (drop done filled)) front ∙ ap (λ l. take done buf ++ l) given in
    subst (Consumes a c) (sym joined) (Consumes-trans a b c _ _ before read)
