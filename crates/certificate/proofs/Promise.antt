-- What the writer promises, and what it promises with the checker of lists: from the contracts' equations and the theorem about the definitions.
-- Assumes nothing.
use Rattle.std.proofs.Common.{◌≡◌, refl, sym, ap, ◌∙◌, subst, inl, inr, List, ℕ, ◌≤◌, length, take, drop}
use Rattle.model.specs.{declared.Limits.Limits, Answer.Answer, Answer.refused, Answer.answered, Case.Task}
use Rattle.model.specs.Operations.{list_bytes, lines_read, written, write_read, follow_read}
use Rattle.model.specs.WellFormed.{Sensible, ReadOk}
use Rattle.model.specs.Guarantees.{lines_in, Passing}
use Rattle.model.specs.Answer as Answer
use Rattle.model.proofs.{Laws.Tasks.answer-then, Laws.Lists.written-answered, Guarantees.guarantees-hold}
use Rattle.certificate.specs.Promise.{WritePromised, Promised}

module _ (F : Limits) (S : Sensible F) where
  promised-for :
      (R : Answer Task) → ReadOk F R → (grant : ℕ) (before : List ℕ) (r : Answer ℕ) (after : List ℕ) →
      r ≡ (write_read F R grant before).answer → after ≡ (write_read F R grant before).buffer → WritePromised F R grant before r after
  unfolding write_read lines_read written Answer.◌>>=◌
  promised-for (refused m p) ok grant before (refused n q) after e k = let i : m ≡ n = cc in let j : p ≡ q = cc in (k, inl (rw (i, j) refl))
  promised-for (refused m p) ok grant before (answered o) after e k = absurd (cc)
  promised-for (answered T) ok grant before (refused n q) after e k = (
    k ∙ (guarantees-hold F S).all_input.refused_unchanged (answered T) grant before n q (sym e),
    inr (T, refl, ((guarantees-hold F S).certificates T (ok T refl)).refused_for grant before n q (sym e)),
  )
  promised-for (answered T) ok grant before (answered m) after e k =
      let D = (guarantees-hold F S).certificates T (ok T refl) in
      let (lines, closes, size, passes) = D.written_is grant before m (sym e) in
      let (fits, rest) = (guarantees-hold F S).all_input.rest_unchanged (answered T) grant before m (sym e) in (
        T,
        refl,
        record {
          is_right = (D.passes_only_right _ _ (D.written_passes grant before m (sym e))).0;
          lines = lines;
          closes = closes;
          size = size;
          fits = fits;
          passes = subst (λ (b : List ℕ). Passing F T (take m b) lines) (sym k) passes;
          rest = ap (drop m) k ∙ rest;
        },
      )

  -- from the two equations of a call
  pub write-promised :
      (R : Answer Task) → ReadOk F R → (grant : ℕ) (before : List ℕ) {r : Answer ℕ} {after : List ℕ} →
      (r ≡ (write_read F R grant before).answer) × (after ≡ (write_read F R grant before).buffer) → WritePromised F R grant before r after
  write-promised R ok grant before {r} {after} (e, k) = promised-for R ok grant before r after e k

  written-task :
      (R : Answer Task) (grant : ℕ) (out : List ℕ) (n : ℕ) → (write_read F R grant out).answer ≡ answered n → (T : Task) × (R ≡ answered T)
  unfolding write_read lines_read
  written-task R grant out n e =
      let x = written-answered F out n (lines_read F R grant (length out)) e in
      answer-then x.1 λ T h k. (T, h)

  pub followed-task : (R : Answer Task) (list : List ℕ) (m : ℕ) → follow_read F R list ≡ answered m → (T : Task) × (R ≡ answered T)
  unfolding follow_read
  followed-task R list m e = answer-then e λ T h k. (T, h)

  pub promised : (R : Answer Task) → ReadOk F R → Promised F R
  promised R ok =
      record {
        passes_only_right =
            λ list r m c e.
            let f = sym c ∙ e in
            let (T, h) = followed-task R list m f in
            let p = ((guarantees-hold F S).certificates T (ok T h)).passes_only_right list m (rw h at f) in
            (T, h, p.0, p.1);
        writes_walk =
            λ T h right.
            let (lines, closes, writes) = ((guarantees-hold F S).certificates T (ok T h)).writes_walk right in (
              lines,
              closes,
              λ grant out w after c granted few room.
                  let (a, l) = writes grant out granted few room in
                  let k = rw h at c in
                  (k.0 ∙ a, ap (take (list_bytes F (length lines))) k.1 ∙ l),
            );
        written_passes =
            λ grant out w after n c e r f.
            let (T, h) = written-task R grant out n (sym c.0 ∙ e) in
            let k = rw h at c in
            let p = ((guarantees-hold F S).certificates T (ok T h)).written_passes grant out n (sym k.0 ∙ e) in
            (rw h at f) ∙ subst (λ (b : List ℕ). follow_read F (answered T) (take n b) ≡ answered (lines_in F (take n b))) (sym k.1) p;
        written_least =
            λ grant out w after n c e list r m f g.
            let (T, h) = written-task R grant out n (sym c.0 ∙ e) in
            let k = rw h at c in
            subst (λ (b : List ℕ). lines_in F (take n b) ≤ lines_in F list) (sym k.1)
            (((guarantees-hold F S).certificates T (ok T h)).written_least grant out n (sym k.0 ∙ e) list m (sym (rw h at f) ∙ g));
      }
