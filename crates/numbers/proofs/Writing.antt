-- One piece written after another. Assumes nothing.
use Rattle.std.proofs.Common.{◌≡◌, refl, ap, sym, ◌∙◌, List, [], ◌++◌, ℕ, ◌+◌, arith, length, length-append, drop}
use lib.Seq.{sets, sets-eq}
use Rattle.model.proofs.Laws.Stores.{sets-append}
use Rattle.numbers.specs.declared.writer.Writer.{Writer}
use Rattle.numbers.specs.Writing.{HasRoom, Writes}

pub writes-none : (w : Writer) → Writes w [] w
writes-none w = record { same = refl; size = refl; place = omega arith; is = refl }

-- a piece, and then another
pub writes-append : {u v w : Writer} {as' bs : List ℕ} → Writes u as' v → Writes v bs w → Writes u (as' ++ bs) w
writes-append {u} {v} {w} {as'} {bs} x y =
    record {
      same = y.same ∙ x.same;
      size = y.size ∙ x.size;
      place = omega (arith, x.place, y.place, length-append as' bs);
      is = y.is ∙ (λ i. sets (x.is i) (x.place i) bs) ∙ sym (sets-append as' bs u.out.now u.at);
    }

-- what was written from the begin on stands there
pub writes-first : {u v : Writer} {bs : List ℕ} → Writes u bs v → u.at ≡ 0 → HasRoom u bs → v.out.now ≡ bs ++ drop (length bs) u.out.now
writes-first {u} {v} {bs} x z room =
    let n : 0 + length bs ≡ length bs = omega arith in
    x.is ∙ ap (λ (i : ℕ). sets u.out.now i bs) z ∙ sets-eq bs u.out.now 0 (omega (arith, room, z)) ∙ ap (λ (i : ℕ). bs ++ drop i u.out.now) n

-- what was written by another writer, which was lent the buffer and its place
pub writes-lent :
    {u v : Writer} {bs : List ℕ} (before after : Writer) → Writes u bs v → u.out.now ≡ before.out.now → u.at ≡ before.at →
    after.out.ghost_name ≡ before.out.ghost_name → after.at ≡ v.at → after.out.now ≡ v.out.now → Writes before bs after
writes-lent {bs = bs} before after x e i n j f =
    record {
      same = n;
      size = ap length f ∙ x.size ∙ ap length e;
      place = j ∙ x.place ∙ ap (λ (k : ℕ). k + length bs) i;
      is = f ∙ x.is ∙ (λ k. sets (e k) (i k) bs);
    }

-- what is left to be written fits, and completes the whole
pub record Remains (before : Writer) (whole : List ℕ) (now : Writer) (left : List ℕ) : Type 0 where
  pub room : HasRoom now left
  pub completes : (after : Writer) → Writes now left after → Writes before whole after

pub remains-whole : {w : Writer} {whole : List ℕ} → HasRoom w whole → Remains w whole w whole
remains-whole room = record { room = room; completes = λ v x. x }

pub remains-none : {u v : Writer} {whole left : List ℕ} → Remains u whole v left → left ≡ [] → Writes u whole v
remains-none {u} {v} l e = l.completes v (rw e (writes-none v))

module _ {u v : Writer} {whole left : List ℕ} (l : Remains u whole v left) where
  -- a piece of it fits
  pub remains-room : (bs rest : List ℕ) → left ≡ bs ++ rest → HasRoom v bs
  remains-room bs rest e = omega (arith, l.room, ap length e, length-append bs rest)

  -- and was written
  pub remains-more : {w : Writer} {bs rest : List ℕ} → Writes v bs w → left ≡ bs ++ rest → Remains u whole w rest
  remains-more {w} {bs} {rest} x e =
      record {
        room = omega (arith, l.room, ap length e, length-append bs rest, x.place, x.size);
        completes = λ a y. l.completes a (rw e (writes-append x y));
      }
