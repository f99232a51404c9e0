-- What survives a larger grant and a narrower start: from the operations' equations and the theorems about the definitions. Assumes nothing.
use Rattle.std.proofs.Common.{◌≡◌, ◌≢◌, refl, sym, ap, ◌∙◌, subst, Bool, true, false, cond, ◌⊎◌, inl, inr, List, [], ℕ, ◌≤◌, ◌<◌, length, map, ltb, arith, le-leb}
use native.Mathlib.Decide.{dec_le}
use Rattle.model.specs.declared.Limits.{Limits}
use Rattle.model.specs.Limits.{limits_of}
use Rattle.model.specs.Kleene.{Kleene, No, Unknown, Yes}
use Rattle.model.specs.Formula.{Formula}
use Rattle.model.specs.Answer as Answer
use Rattle.model.specs.Answer.{Answer, refused, answered}
use Rattle.model.specs.Run.{Outcome, reached, missed, blocked}
use Rattle.model.specs.Case.{case_of, state_of, Task, IsStart, initially, Right, run_of}
use Rattle.model.specs.Belief.{initial_belief}
use Rattle.model.specs.Walk as Walk
use Rattle.model.specs.Walk.{Kind, empty, closed, look_end, look_of, Line, covered, walk, right, wrong, visits, initial_at, run_at, look_at, walked, judged}
use Rattle.model.specs.Search as Search
use Rattle.model.specs.Search.{first_right, none_right, undecided_at, Earlier, IsShort}
use Rattle.model.specs.Relevance.{Layout, every_row, fewer_rows, relevant_to, run_rows, sparse_rows}
use Rattle.model.specs.ProblemBytes.{Problem, problem_of, plan_of, action_at}
use Rattle.model.specs.ListBytes.{list_of}
use Rattle.model.specs.Operations.{is_state_number, state_answer, run_read, line_count, judge_read, when_reached, traced_back, reached_read, relevant_read, written, lines_for, lines_read, write_read, follow_read, task_of, read_task, read_both, search_plans}
use Rattle.model.specs.Guarantees.{IsSolution, NotWritten, by_visits, by_verdict, by_lines, by_room, Searching}
use Rattle.model.specs.{CaseList.follow, WellFormed.Sensible, WellFormed.ReadOk}
use Rattle.model.proofs.{Laws.Tasks.answer-then, Laws.Tasks.follow-is, Laws.Tasks.problem-fits, Guarantees.guarantees-hold, Guarantees.guarantees-of, Guarantees.limits-sensible, Guarantees.read-sound}
use Rattle.model.proofs.Laws.Judging.{judged-in}
use Rattle.model.proofs.Laws.Beliefs.{solution-right}
use Rattle.model.proofs.Laws.Lists.{n≤w}
use Rattle.model.proofs.Laws.Searching.{answers-or-refuses}
use Rattle.model.proofs.Laws.Tabulate.{length-tabulate}
use Rattle.model.proofs.Laws.Verdicts.{right-closes}
use Rattle.judge.specs.Survival.{Decided, IsRight, Settled, LargerGrant, SearchedAgain, NarrowerStart, ReadsNoToo, Narrowed, NarrowedAlike}
use Rattle.judge.proofs.Verdicts.{judge-found}
use Rattle.judge.proofs.Narrowing.{solution-narrows, follow-becomes, walk-within}

-- ---- a larger grant

module _ (F : Limits) (S : Sensible F) (g g' : ℕ) (g≤g' : g ≤ g') where
  judge-stays : (R : Answer Task) → ReadOk F R → Decided (judge_read R g) → judge_read R g' ≡ judge_read R g
  unfolding judge_read Answer.◌>>=◌
  judge-stays (refused n q) ok d = refl
  judge-stays (answered T) ok d = ((guarantees-hold F S).verdicts T (ok T refl)).larger_grant g g' g≤g' λ e. subst Decided e d

  same-verdict : (T : Task) → visits (walked T) ≤ g → judged T g' ≡ judged T g
  unfolding judged
  same-verdict T h = grind (arith, le-leb)

  write-stays : (R : Answer Task) → ReadOk F R → (out : List ℕ) → (write_read F R g out).answer ≢ refused 50 g → write_read F R g' out ≡ write_read F R g out
  unfolding write_read lines_read Answer.◌>>=◌
  write-stays (refused n q) ok out d = refl
  write-stays (answered T) ok out d =
      elim (dec_le (visits (walked T)) g) [
        | yes l ↦ ap (λ v. written F out (lines_for F (length out) v)) (same-verdict T l)
        | no l ↦ absurd (d (((guarantees-hold F S).certificates T (ok T refl)).out_of_visits g out (omega arith)))
      ]

pub larger-grant : (F : Limits) → Sensible F → (R : Answer Task) → ReadOk F R → (g g' : ℕ) → g ≤ g' → LargerGrant F R g g'
larger-grant F S R ok g g' l =
    record {
      judged = λ first second c c' d. c' ∙ judge-stays F S g g' l R ok (subst Decided c d) ∙ sym c;
      written =
          λ out first second after again c c' d.
          let e = write-stays F S g g' l R ok out (λ k. d (c.0 ∙ k)) in
          (c'.0 ∙ ap (λ w. w.answer) e ∙ sym c.0, c'.1 ∙ ap (λ w. w.buffer) e ∙ sym c.1);
    }

search-stays :
    (problem : List ℕ) (g g' : ℕ) → g ≤ g' → (longest : ℕ) (x : Answer Problem) → problem_of (limits_of problem) problem ≡ x →
    Settled (search_plans (limits_of problem) problem longest g) →
    search_plans (limits_of problem) problem longest g' ≡ search_plans (limits_of problem) problem longest g
search-stays problem g g' l longest (refused n q) h d =
    let first = (guarantees-of problem).all_input.problem_refuses_first problem longest in
    first g' n q h ∙ sym (first g n q h)
search-stays problem g g' l longest (answered p) h d =
    ((guarantees-of problem).searching problem p h).larger_grant longest g g' l λ q used e. subst Settled e d

pub searched-again : (problem : List ℕ) (g g' : ℕ) → g ≤ g' → SearchedAgain problem g g'
searched-again problem g g' l longest first second c c' d = c' ∙ search-stays problem g g' l longest _ refl (subst Settled c d) ∙ sym c

-- ---- a narrower start

follow-of :
    (F : Limits) (R : Answer Task) (T : Task) → R ≡ answered T → (list : List ℕ) →
    follow_read F R list ≡ Answer.◌>>=◌ (list_of F list) (λ ls. follow T.width (look_at T) T.facts ls 0 0)
follow-of F R T e list = rw e (follow-is F T list)

-- a task with another initial formula
abbrev with_initial : Task → Formula → Task
with_initial T φ = record { width = T.width; facts = T.facts; initial = φ; goal = T.goal; plan = T.plan }

module _ (problem narrower : List ℕ) (N : NarrowerStart problem narrower) where
  -- the tasks of the two problems with the same steps
  abbrev task : List ℕ → Task
  task steps = task_of (limits_of problem) N.first steps

  abbrev task' : List ℕ → Task
  task' steps = task_of (limits_of narrower) N.second steps

  -- the blocks of both are read alike
  read-both :
      (plan : List ℕ) (x : Answer (List ℕ)) → plan_of plan (length N.first.actions) ≡ x →
      ((n q : ℕ) × (read_both problem plan ≡ refused n q) × (read_both narrower plan ≡ refused n q)) ⊎
      ((steps : List ℕ) × (read_both problem plan ≡ answered (task steps)) ×
      (read_both narrower plan ≡ answered (task' steps)))
  unfolding read_task Answer.◌>>=◌
  read-both plan (refused n q) h = inl (n, q, rw (N.reads_first, Answer.◌>>=◌, h) refl, rw (N.reads_second, Answer.◌>>=◌, N.actions, h) refl)
  read-both plan (answered steps) h = inr (steps, rw (N.reads_first, Answer.◌>>=◌, h) refl, rw (N.reads_second, Answer.◌>>=◌, N.actions, h) refl)

  fits : (steps : List ℕ) → (task steps).facts ≤ (task steps).width
  unfolding task_of
  fits steps =
      n≤w (limits_of problem) (limits-sensible problem) (task steps)
      (record { facts = problem-fits (limits_of problem) problem N.first N.reads_first; width = refl })

  fits' : (steps : List ℕ) → (task' steps).facts ≤ (task' steps).width
  unfolding task_of
  fits' steps =
      n≤w (limits_of narrower) (limits-sensible narrower) (task' steps)
      (record { facts = problem-fits (limits_of narrower) narrower N.second N.reads_second; width = refl })

  solution : (steps : List ℕ) → IsSolution (task steps) → IsSolution (task' steps)
  unfolding task_of
  solution steps h =
      rw (N.facts, N.goal, N.actions)
      (solution-narrows N.first.facts N.first.goal (map (action_at N.first.actions) steps) (initial_belief N.first.facts N.first.initial)
      (initial_belief N.first.facts N.second.initial) (λ s b. N.starts s (rw N.facts b)) h)

  -- a right plan stays right
  right-task : (steps : List ℕ) → Right (task steps) → Right (task' steps)
  right-task steps r = (solution-right (task' steps) (fits' steps)).0 (solution steps ((solution-right (task steps) (fits steps)).1 r))

  right-plan :
      (plan : List ℕ) (T : Task) → read_both problem plan ≡ answered T → Right T →
      (T' : Task) × (read_both narrower plan ≡ answered T') × Right T'
  right-plan plan T h r =
      elim (read-both plan _ refl) [
        | inl (n, q, e, _) ↦ absurd (cc)
        | inr (steps, e, e') ↦
            let same : T ≡ task steps = grind arith in
            (task' steps, e', right-task steps (subst Right same r))
      ]

  decided-right :
      (plan : List ℕ) (T : Task) → read_both narrower plan ≡ answered T → Right T → (grant : ℕ) →
      Decided (judge_read (read_both narrower plan) grant) → IsRight (judge_read (read_both narrower plan) grant)
  decided-right plan T h r grant d =
      let V = (guarantees-of narrower).verdicts T (read-sound narrower plan T h) in
      rw h
      (elim (dec_le (visits (walked T)) grant) [
        | yes l ↦ let (lines, e) = V.called_right grant l r in subst IsRight (sym e) tt
        | no l ↦ absurd (subst Decided (V.called_undecided grant (omega arith)) (rw h at d))
      ])

  not-for-51 : (F : Limits) (T : Task) (grant room n q : ℕ) → NotWritten F T grant room n q → Right T → n ≡ 51 → ⊥
  not-for-51 F T grant room n q (by_visits _) r e = absurd (omega (arith, e))
  not-for-51 F T grant room n q (by_verdict _ nr) r e = nr r
  not-for-51 F T grant room n q (by_lines _ _ _) r e = absurd (omega (arith, e))
  not-for-51 F T grant room n q (by_room _ _ _ _) r e = absurd (omega (arith, e))

  -- what a search of the second problem finds, where one of the first finds the plan p
  finds :
      (longest grant other : ℕ) (p : List ℕ) (used : ℕ) → search_plans (limits_of problem) problem longest grant ≡ answered (first_right p used) →
      (x : Answer Search.Search) → search_plans (limits_of narrower) narrower longest other ≡ x → Settled x →
      (q : List ℕ) × (used' : ℕ) × (x ≡ answered (first_right q used')) × (Earlier p q → ⊥)
  finds longest grant other p used e x k s =
      let S = (guarantees-of problem).searching problem N.first N.reads_first in
      let S' = (guarantees-of narrower).searching narrower N.second N.reads_second in
      let (short, r, _) = S.found_first longest grant p used e in
      let short' : IsShort (length N.second.actions) longest p = rw N.actions short in
      by-answer S S' short' (right-task p r) x k s
    where
      unrefused : Searching (limits_of problem) problem N.first → Searching (limits_of narrower) narrower N.second → (n q : ℕ) → search_plans (limits_of narrower) narrower longest other ≡ refused n q → ⊥
      unrefused S S' n q k =
          elim (answers-or-refuses (limits_of narrower) (limits-sensible narrower) narrower N.second N.reads_second longest) [
            | inl (_, _, a) ↦ let b = a other in absurd (cc)
            | inr (inl (m, _)) ↦ let b = S.over_length longest grant m in absurd (cc)
            | inr (inr (l, m, _)) ↦ let b = S.too_many longest grant l (rw N.actions at m) in absurd (cc)
          ]

      by-answer :
          Searching (limits_of problem) problem N.first → Searching (limits_of narrower) narrower N.second → IsShort (length N.second.actions) longest p →
          Right (task' p) → (x : Answer Search.Search) → search_plans (limits_of narrower) narrower longest other ≡ x → Settled x →
          (q : List ℕ) × (used' : ℕ) × (x ≡ answered (first_right q used')) × (Earlier p q → ⊥)
      by-answer S S' short r (refused n q) k s = absurd (unrefused S S' n q k)
      by-answer S S' short r (answered (first_right q used')) k s = (q, used', refl, λ l. (S'.found_first longest other q used' k).2 p short l r)
      by-answer S S' short r (answered (undecided_at q used')) k s = elim s [ ]
      by-answer S S' short r (answered (none_right used')) k s = absurd (S'.none_is_right longest other used' k p short r)

  pub narrowed : Narrowed problem narrower
  unfolding follow_read
  narrowed =
      record {
        right = right-plan;
        judged =
            λ plan T grant second h c r d.
            let (T', h', ok) = right-plan plan T h r in
            subst IsRight (sym c) (decided-right plan T' h' ok grant (subst Decided c d));
        written =
            λ plan out T grant second after h c r used e.
            let (T', h', ok) = right-plan plan T h r in
            let W = (guarantees-of narrower).certificates T' (read-sound narrower plan T' h') in
            let e' : (write_read (limits_of narrower) (answered T') grant out).answer ≡ refused 51 used = rw h' at (sym c.0 ∙ e) in
            not-for-51 (limits_of narrower) T' grant (length out) 51 used (W.refused_for grant out 51 used e') ok refl;
        searched =
            λ longest grant other first second c c' p used e d.
            let (q, used', k, l) = finds longest grant other p used (sym c ∙ e) _ refl (subst Settled c' d) in
            (q, used', c' ∙ k, l);
        shown =
            λ plan list lines other first second c c' e d.
            let f = sym c ∙ e in
            answer-then f λ T h _.
            let ok = (((guarantees-of problem).certificates T (read-sound problem plan T h)).passes_only_right list lines (rw h at f)).0 in
            let (T', h', ok') = right-plan plan T h ok in
            subst IsRight (sym c') (decided-right plan T' h' ok' other (subst Decided c' d));
      }

-- ---- blocks of one version

-- a visit with another initial formula, which reads no where the first does
look-ends : (y : Kleene) (r : Outcome) (κ : Kind) → look_end r ≡ closed κ → (κ' : Kind) × (look_of y r ≡ closed κ')
look-ends No r κ e = (empty, refl)
look-ends Unknown r κ e = (κ, e)
look-ends Yes r κ e = (κ, e)

look-keeps : (x y : Kleene) (r : Outcome) (κ : Kind) → (x ≡ No → y ≡ No) → look_of x r ≡ closed κ → (κ' : Kind) × (look_of y r ≡ closed κ')
look-keeps No y r κ h e = (empty, rw (h refl) refl)
look-keeps Unknown y r κ h e = look-ends y r κ e
look-keeps Yes y r κ h e = look-ends y r κ e

module _ (T : Task) (φ : Formula) where
  keeps-closed :
      ReadsNoToo T.initial φ → (k v : ℕ) (κ : Kind) → look_at T k v ≡ closed κ → (κ' : Kind) × (look_at (with_initial T φ) k v ≡ closed κ')
  unfolding look_at
  keeps-closed h k v κ e = look-keeps (initial_at T k v) (initial_at (with_initial T φ) k v) (run_at T k v) κ (h (case_of T.width T.facts k v)) e

  closes-within :
      ReadsNoToo T.initial φ → (ls : List Line) (a : ℕ) → walked T ≡ covered ls a →
      (ms : List Line) × (b : ℕ) × (walked (with_initial T φ) ≡ covered ms b) × (length ms ≤ length ls) × (b ≤ a)
  unfolding walked walk
  closes-within h = walk-within T.width (look_at T) (look_at (with_initial T φ)) (keeps-closed h) T.facts 0 0

  -- what telling relevant facts makes of the run's outcome
  back-alike :
      (L : Layout) → L.need (with_initial T φ) ≡ L.need T → (s : ℕ) → L.laid_out (with_initial T φ) s ≡ L.laid_out T s → (work : List ℕ) (o : Answer Outcome) →
      traced_back L s work (Answer.◌>>=◌ o λ o. when_reached o (cond (ltb (length work) (L.need (with_initial T φ))) (refused 42 0) (answered (with_initial T φ)))) ≡
      traced_back L s work (Answer.◌>>=◌ o λ o. when_reached o (cond (ltb (length work) (L.need T)) (refused 42 0) (answered T)))
  unfolding Answer.◌>>=◌ relevant_to
  back-alike L n s l work (refused m q) = refl
  back-alike L n s l work (answered missed) = refl
  back-alike L n s l work (answered (blocked p)) = refl
  back-alike L n s l work (answered reached) = rw n (by-room (ltb (length work) (L.need T)))
    where
      by-room :
          (b : Bool) → traced_back L s work (cond b (refused 42 0) (answered (with_initial T φ))) ≡ traced_back L s work (cond b (refused 42 0) (answered T))
      by-room true = refl
      by-room false = rw (n, l) refl

module _ (problem narrower : List ℕ) (N : NarrowerStart problem narrower) (alike : limits_of narrower ≡ limits_of problem) where
  again-task : (steps : List ℕ) → task' problem narrower N steps ≡ with_initial (task problem narrower N steps) N.second.initial
  unfolding task_of
  again-task steps = rw (alike, N.facts, N.goal, N.actions) refl

  -- both are read with the plan, as tasks that differ in the initial formula; or both are refused alike
  reads :
      (plan : List ℕ) →
      ((n q : ℕ) × (read_both problem plan ≡ refused n q) × (read_both narrower plan ≡ refused n q)) ⊎
      ((steps : List ℕ) × (read_both problem plan ≡ answered (task problem narrower N steps)) ×
      (read_both narrower plan ≡ answered (with_initial (task problem narrower N steps) N.second.initial)))
  reads plan =
      elim (read-both problem narrower N plan _ refl) [
        | inl r ↦ inl r
        | inr (steps, e, e') ↦ inr (steps, e, e' ∙ ap answered (again-task steps))
      ]

  run-again : (plan : List ℕ) (s : ℕ) → run_read (read_both narrower plan) s ≡ run_read (read_both problem plan) s
  unfolding run_read Answer.◌>>=◌ is_state_number run_of
  run-again plan s =
      elim (reads plan) [
        | inl (n, q, e, e') ↦ rw (e, e') refl
        | inr (steps, e, e') ↦ rw (e, e') refl
      ]

  every-again :
      (plan : List ℕ) (s : ℕ) (work : List ℕ) → relevant_read every_row (read_both narrower plan) s work ≡ relevant_read every_row (read_both problem plan) s work
  unfolding relevant_read reached_read Answer.◌>>=◌ is_state_number run_of run_rows
  every-again plan s work =
      elim (reads plan) [
        | inl (n, q, e, e') ↦ rw (e, e') refl
        | inr (steps, e, e') ↦
            let T = task problem narrower N steps in rw (e, e') (back-alike T N.second.initial every_row refl s refl work (state_answer T s))
      ]

  sparse-again :
      (plan : List ℕ) (s : ℕ) (work : List ℕ) →
      relevant_read fewer_rows (read_both narrower plan) s work ≡ relevant_read fewer_rows (read_both problem plan) s work
  unfolding relevant_read reached_read Answer.◌>>=◌ is_state_number run_of sparse_rows
  sparse-again plan s work =
      elim (reads plan) [
        | inl (n, q, e, e') ↦ rw (e, e') refl
        | inr (steps, e, e') ↦
            let T = task problem narrower N steps in rw (e, e') (back-alike T N.second.initial fewer_rows refl s refl work (state_answer T s))
      ]

  unread :
      (plan list : List ℕ) (grant n q : ℕ) → read_both problem plan ≡ refused n q →
      (follow_read (limits_of problem) (read_both problem plan) list ≡ refused n q) × (judge_read (read_both problem plan) grant ≡ refused n q)
  unfolding follow_read judge_read Answer.◌>>=◌
  unread plan list grant n q h = (rw h refl, rw h refl)

  follow-again :
      (plan list : List ℕ) (lines : ℕ) → follow_read (limits_of problem) (read_both problem plan) list ≡ answered lines →
      (follow_read (limits_of narrower) (read_both narrower plan) list ≡ answered lines) ⊎
      ((i : ℕ) × (i < lines) × (follow_read (limits_of narrower) (read_both narrower plan) list ≡ refused 69 i))
  unfolding Answer.◌>>=◌
  follow-again plan list lines f =
      elim (reads plan) [
        | inl (n, q, e, e') ↦ let r = (unread plan list 0 n q e).0 in absurd (cc)
        | inr (steps, e, e') ↦
            let T = task problem narrower N steps in
            let T' = with_initial T N.second.initial in
            let second = follow-of (limits_of narrower) (read_both narrower plan) T' e' list in
            answer-then (sym (follow-of (limits_of problem) (read_both problem plan) T e list) ∙ f) λ ls h g.
            let h' : list_of (limits_of narrower) list ≡ answered ls = rw alike h in
            let is = rw h' at second in
            elim (follow-becomes T.width T.facts (look_at T) (look_at T') ls 0 0 lines g) [
              | inl k ↦ inl (is ∙ k)
              | inr (j, l, k) ↦ inr (j, l, is ∙ k)
            ]
      ]

  first-initial : (steps : List ℕ) → (task problem narrower N steps).initial ≡ N.first.initial
  unfolding task_of
  first-initial steps = refl

  within :
      ReadsNoToo N.first.initial N.second.initial → (plan : List ℕ) (grant lines used : ℕ) →
      judge_read (read_both problem plan) grant ≡ answered (right lines used) →
      (lines' used' : ℕ) × (judge_read (read_both narrower plan) grant ≡ answered (right lines' used')) × (lines' ≤ lines) × (used' ≤ used)
  within h plan grant lines used e =
      elim (reads plan) [
        | inl (n, q, k, k') ↦ let r = (unread plan [] grant n q k).1 in absurd (cc)
        | inr (steps, k, k') ↦
            let T = task problem narrower N steps in
            let T' = with_initial T N.second.initial in
            let says = ((guarantees-of problem).verdicts T (read-sound problem plan T k)).judge_says grant (right lines used) (rw k at e) in
            let (ls, a, w) = right-closes T (fits problem narrower N steps) says.is_right in
            let (ms, b, w', l, m) = closes-within T N.second.initial (rw (first-initial steps) h) ls a w in
            let first = judged-in T (fits problem narrower N steps) grant (covered ls a) w (omega (arith, says.within, says.walk_visits, ap visits w)) in
            let second = judged-in T' (fits problem narrower N steps) grant (covered ms b) w' (omega (arith, says.within, says.walk_visits, ap visits w, ap visits w', m)) in
            let is : answered (right lines used) ≡ answered (right (length ls) a) =
            sym e ∙ sym (judge-found (read_both problem plan) T k grant) ∙ ap (λ x. answered (line_count x)) first in
            let lines-are : lines ≡ length ls = cc in
            let used-are : used ≡ a = cc in
            let again = sym (judge-found (read_both narrower plan) T' k' grant) ∙ ap (λ x. answered (line_count x)) second in
            (length ms, b, again, omega (arith, l, lines-are), omega (arith, m, used-are))
      ]

  start-before : (steps : List ℕ) (t : ℕ) → IsStart (with_initial (task problem narrower N steps) N.second.initial) t → IsStart (task problem narrower N steps) t
  unfolding task_of initially state_of
  start-before steps t h =
      record {
        state = record { in_width = h.state.in_width; no_bits = h.state.no_bits };
        starts = (N.starts _ (rw N.facts (length-tabulate N.first.facts _, h.starts))).1;
      }

  no-lower :
      (plan : List ℕ) (grant other : ℕ) (s t used used' : ℕ) (o o' : Outcome) →
      judge_read (read_both problem plan) grant ≡ answered (wrong s o used) → judge_read (read_both narrower plan) other ≡ answered (wrong t o' used') →
      s ≤ t
  unfolding run_of
  no-lower plan grant other s t used used' o o' e e' =
      elim (reads plan) [
        | inl (n, q, k, k') ↦ let r = (unread plan [] grant n q k).1 in absurd (cc)
        | inr (steps, k, k') ↦
            let T = task problem narrower N steps in
            let T' = with_initial T N.second.initial in
            let S = (((guarantees-of problem).verdicts T (read-sound problem plan T k)).judge_says grant (wrong s o used) (rw k at e)).lowest in
            let S' = (((guarantees-of narrower).verdicts T' (read-sound narrower plan T' k')).judge_says other (wrong t o' used') (rw k' at e')).lowest in
            elim (dec_le s t) [
              | yes l ↦ l
              | no l ↦ absurd (S'.not_reached (S.before t (start-before steps t S'.start) (omega arith)))
            ]
      ]

  pub narrowed-alike : NarrowedAlike problem narrower N
  narrowed-alike =
      record {
        followed = λ plan list lines first second c c' e. rw c' (follow-again plan list lines (sym c ∙ e));
        judged_within =
            λ h plan grant lines used first second c c' e.
            let (lines', used', k, l, m) = within h plan grant lines used (sym c ∙ e) in
            (lines', used', c' ∙ k, l, m);
        fails_no_lower = λ plan grant other first second c c' s t used used' o o' e e'. no-lower plan grant other s t used used' o o' (sym c ∙ e) (sym c' ∙ e');
        run_alike = λ plan s first second c c'. c' ∙ run-again plan s ∙ sym c;
        told =
            λ plan s work first second after again c c'.
            let e = every-again plan s work in
            (c'.0 ∙ ap (λ w. w.answer) e ∙ sym c.0, c'.1 ∙ ap (λ w. w.buffer) e ∙ sym c.1);
        told_sparsely =
            λ plan s work first second after again c c'.
            let e = sparse-again plan s work in
            (c'.0 ∙ ap (λ w. w.answer) e ∙ sym c.0, c'.1 ∙ ap (λ w. w.buffer) e ∙ sym c.1);
      }
