-- Runs of stores, and the bytes of lines that they leave. Assumes nothing.
use Rattle.std.proofs.Common.{◌≡◌, refl, sym, ap, ◌∙◌, List, [], ◌∷◌, ◌++◌, append_assoc, append-nil, ℕ, ◌+◌, ◌-◌, ◌*◌, ◌≤◌, ◌<◌, mul-zero, mul-suc, arith, length, length-append, set, take, drop, length-set, length-take, length-drop}
use native.Mathlib.Nat.{mul-add}
use Rattle.std.proofs.lemmas.List.{drop_all}
use lib.Seq.{sets, length-sets}
use borrow.Rule.Slice.PartMut.{put_mid}
use Rattle.model.specs.{declared.Limits.Limits, Walk.Line, Read.bytes_of, ListBytes.line_bytes, ListBytes.lines_bytes}
use Rattle.model.proofs.{Laws.Stores.sets-append, Laws.Stores.part-put, Laws.Reading.length-bytes_of}
use Rattle.lines.specs.Putting.{filled, LinesLaid, AddsLine}

-- kind and k are stored, and then all that is behind them
behind-two : (line : List ℕ) (a b n : ℕ) (ys : List ℕ) → 2 < length line → length line - 2 ≤ n → put_mid 2 n (set (set line 0 a) 1 b) ys ≡ a ∷ b ∷ ys
behind-two [] a b n ys h m = absurd (omega arith)
behind-two (x ∷ []) a b n ys h m = absurd (omega arith)
behind-two (x ∷ y ∷ rest) a b n ys h m = ap (λ (zs : List ℕ). a ∷ b ∷ zs) (ap (λ (zs : List ℕ). ys ++ zs) (drop_all n rest (omega (arith, m))) ∙ append-nil ys)

pub filled-is :
    (line : List ℕ) (l : Line) (a : ℕ) (out : List ℕ) → 2 < length line → a ≡ l.kind →
    out ≡ bytes_of (length (take (length (set (set line 0 a) 1 l.k) - 2) (drop 2 (set (set line 0 a) 1 l.k)))) l.value →
    put_mid 2 (length (set (set line 0 a) 1 l.k) - 2) (set (set line 0 a) 1 l.k) out ≡ filled (length line) l
filled-is line l a out h e w =
    let n : length (take (length (set (set line 0 a) 1 l.k) - 2) (drop 2 (set (set line 0 a) 1 l.k))) ≡ length line - 2 = simp (length-take, length-drop, length-set) (omega arith) in
    behind-two line a l.k (length (set (set line 0 a) 1 l.k) - 2) out h (simp length-set (omega arith)) ∙ rw (w, n, e)

module _ (F : Limits) where
  lines-append : (ls ms : List Line) → lines_bytes F (ls ++ ms) ≡ lines_bytes F ls ++ lines_bytes F ms
  unfolding lines_bytes
  lines-append [] ms = refl
  lines-append (l ∷ ls) ms = rw (lines-append ls ms, ← append_assoc)

  length-lines : 2 < F.line → (ls : List Line) → length (lines_bytes F ls) ≡ F.line * length ls
  unfolding lines_bytes line_bytes
  length-lines h [] = sym (mul-zero F.line)
  length-lines h (l ∷ ls) =
      rw (length-append (bytes_of (F.line - 2) l.value) (lines_bytes F ls), length-bytes_of, length-lines h ls) (omega (arith, mul-suc F.line (length ls)))

  -- a line was put into a part of the buffer
  pub adds-line :
      2 < F.line → (before : List ℕ) (to : ℕ) (l : Line) → to + F.line ≤ length before → (part : List ℕ) →
      part ≡ filled (length (take (to + F.line - to) (drop to before))) l → AddsLine F before to l (to + F.line) (put_mid to (to + F.line - to) before part)
  unfolding lines_bytes line_bytes
  adds-line few before to l room part h =
      let size : to + F.line - to ≡ F.line = omega arith in
      let long : length (take F.line (drop to before)) ≡ F.line = length-take F.line (drop to before) ∙ omega (arith, length-drop to before) in
      let is : part ≡ line_bytes F l = rw (size, long) at h in
      let whole : length part ≡ F.line = ap length is ∙ omega (arith, length-bytes_of (F.line - 2) l.value) in
      let put : put_mid to (to + F.line - to) before part ≡ sets before to (line_bytes F l) = rw size (part-put to F.line before part room whole ∙ ap (sets before to) is) in
      record {
        same = ap length put ∙ length-sets before to (line_bytes F l);
        is = λ r. record { end = omega arith; bytes = put ∙ ap (λ (x : List ℕ). sets before to x) (sym (append-nil (line_bytes F l))) };
      }

  -- lines after lines
  pub puts-append :
      2 < F.line → (l m n : List ℕ) (to p r : ℕ) (ls ms : List Line) → length m ≡ length l → LinesLaid F l to ls p m → LinesLaid F m p ms r n →
      LinesLaid F l to (ls ++ ms) r n
  puts-append few l m n to p r ls ms same a b h =
      let c : F.line * length (ls ++ ms) ≡ F.line * length ls + F.line * length ms = rw (length-append, mul-add) in
      let x = a (omega arith) in
      let y = b (omega (arith, x.end)) in
      let e : p ≡ to + length (lines_bytes F ls) = x.end ∙ ap (λ (z : ℕ). to + z) (sym (length-lines few ls)) in
      record {
        end = omega (arith, x.end, y.end);
        bytes = y.bytes ∙ (λ j. sets (x.bytes j) (e j) (lines_bytes F ms)) ∙ rw (lines-append ls ms, sets-append);
      }
