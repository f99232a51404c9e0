-- What the code for lists promises: from the contracts' equations and the theorems about the definitions. Assumes nothing.
use Rattle.std.proofs.Common.{◌≡◌, refl, sym, ◌∙◌, Bool, true, false, ◌⊎◌, inl, inr, List, ℕ, ◌^◌, ◌≤◌, arith, length, eqb, eq-eqb}
use mathlib.Core.Bool.{false≢true}
use Rattle.model.specs.declared.Limits.{Limits}
use Rattle.model.specs.Answer.{Answer, refused, answered}
use Rattle.model.specs.Case.{Task}
use Rattle.model.specs.Walk.{Line, look_at}
use Rattle.model.specs.CaseList.{ends, follow}
use Rattle.model.specs.Cover.{cover_end, FaultAt}
use Rattle.model.specs.ListBytes.{list_of}
use Rattle.model.specs.Operations.{follow_read, cover_read}
use Rattle.model.specs.WellFormed.{Bytes, Sensible, ReadOk}
use Rattle.model.proofs.Laws.Tasks.{answer-then, refusal-of}
use Rattle.model.proofs.Laws.RunningEnd.{same-refusal, covers-to, fault-at, same_answers}
use Rattle.model.proofs.Laws.Covers.{cover-read, cover-refusal, cover-covers, cover-kept, cover-fault-at}
use Rattle.model.proofs.Guarantees.{guarantees-hold}
use Rattle.blocks.proofs.Promise.{not-refused}
use Rattle.follow.specs.Promise.{EndsElsewhere, FollowRefusedFor, FollowPromised, EndKept, CoverPromised}

-- the test after the last line
ends-refused : (b : Bool) (i n q : ℕ) → ends b i ≡ refused n q → (b ≡ false) × (n ≡ 70) × (q ≡ i)
unfolding ends
ends-refused true i n q e = absurd (not-refused refl e)
ends-refused false i n q e = let (f, p) = same-refusal e in (refl, sym f, sym p)

-- lines that do not pass: the first fault, or the end
lines-refused :
    (T : Task) (lines : List Line) (n q : ℕ) → follow T.width (look_at T) T.facts lines 0 0 ≡ refused n q →
    FaultAt T.width (look_at T) T.facts lines n q ⊎ EndsElsewhere T lines n q
lines-refused T lines n q e =
    elim (refusal-of (cover_end T.width (look_at T) T.facts lines 0 0) (sym (same_answers T.width (look_at T) T.facts lines) ∙ e)) [
      | inl h ↦ inl (fault-at T.width (look_at T) T.facts lines n q h)
      | inr (end, h, k) ↦
          let (off, number, place) = ends-refused (eqb end (2 ^ T.width)) (length lines) n q k in
          inr (record {
            end = end;
            no_fault = h;
            covers = covers-to T.width (look_at T) T.facts lines end h;
            not_whole = λ z. false≢true (sym off ∙ eq-eqb end (2 ^ T.width) z);
            number = number;
            place = place;
          })
    ]

module _ (F : Limits) (S : Sensible F) (R : Answer Task) (ok : ReadOk F R) (list : List ℕ) where
  -- what is answered was read
  followed-task : (m : ℕ) → follow_read F R list ≡ answered m → (T : Task) × (R ≡ answered T)
  unfolding follow_read
  followed-task m e = answer-then e λ T h k. (T, h)

  follow-refusal : (n q : ℕ) → follow_read F R list ≡ refused n q → FollowRefusedFor F R list n q
  unfolding follow_read
  follow-refusal n q e =
      elim (refusal-of R e) [
        | inl h ↦ inl h
        | inr (T, h, k) ↦
            elim (refusal-of (list_of F list) k) [
              | inl l ↦ inr (T, h, inl l)
              | inr (lines, l, m) ↦ inr (T, h, inr (lines, l, lines-refused T lines n q m))
            ]
      ]

  pub follow-promised : Bytes list → (r : Answer ℕ) → r ≡ follow_read F R list → FollowPromised F R list r
  follow-promised b (refused n q) e = (
    follow-refusal n q (sym e),
    λ T h lines p.
        not-refused ((((guarantees-hold F S).certificates T (ok T h)).passes_exactly list b (length lines)).1 (lines, p, refl)) (rw h at (sym e)),
  )
  follow-promised b (answered m) e =
      let (T, h) = followed-task m (sym e) in
      let (lines, p, count) = (((guarantees-hold F S).certificates T (ok T h)).passes_exactly list b m).0 (rw h at (sym e)) in
      (T, h, lines, p, count)

  -- the end after the first i lines
  kept :
      (T : Task) → R ≡ answered T → (lines : List Line) → list_of F list ≡ answered lines →
      (m i : ℕ) → i ≤ m → ((f p : ℕ) → cover_read F R list m ≡ refused f p → i ≤ p) → EndKept F R list T lines i
  kept T h lines k m i l g =
      let (d, a, c) = cover-kept F R list T h lines k m i l g in
      record { end = d; answers = a; covers = c }

  pub cover-promised : (m : ℕ) (r : Answer ℕ) → r ≡ cover_read F R list m → CoverPromised F R list m r
  cover-promised m (refused n q) e =
      elim (cover-refusal F R list m n q (sym e)) [
        | inl h ↦ inl h
        | inr (T, h, inl k) ↦ inr (T, h, inl k)
        | inr (T, h, inr (lines, k)) ↦
            let (o, inside) = cover-fault-at F R list T h lines k m n q (sym e) in
            inr (T, h, inr (lines, k, o, λ i l. kept T h lines k m i (omega arith) (λ f p g. let (_, place) = same-refusal (sym g ∙ sym e) in omega arith)))
      ]
  cover-promised m (answered x) e =
      let (T, h, lines, k) = cover-read F R list m x (sym e) in (
        T,
        h,
        lines,
        k,
        cover-covers F R list T h lines k m x (sym e),
        λ i l. kept T h lines k m i l (λ f p g. absurd (not-refused (sym e) g)),
      )
