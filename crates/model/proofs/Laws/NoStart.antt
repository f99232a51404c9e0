-- A problem whose initial formula is the empty "any": the walk closes at once, whatever the plan. Assumes nothing.
use Rattle.model.proofs.Words.{◌≡◌, ap, List, [], ◌∷◌, ◌++◌, ℕ, ◌≤◌, arith, length, drop, le-ltb, Limits, answered, any, none, eval, Task, Kind, empty, Look, closed, Line, line, covered, right, visits, walk_from, walk, look_at, walked, Problem, problem_of, plan_of, encode_list, read_plan, task_of, read_task, judge, judge_read, list_bytes, lines_for, written, write_list, write_read}
use Rattle.model.specs.Answer as Answer
use Rattle.model.proofs.Laws.Tasks.{answer-then, task-sound, lines-is}
use Rattle.model.proofs.Laws.Judging.{judged-in}

-- a closed case is one line and one visit
walk-closed :
    (w : ℕ) (look : ℕ → ℕ → Look) (d : ℕ) (κ : Kind) (k v : ℕ) → walk_from w look d (closed κ) k v ≡ covered (line κ k v ∷ []) 1
unfolding walk_from
walk-closed w look d κ k v = grind arith

-- the only line of the walk
abbrev only : List Line
only = line empty 0 0 ∷ []

walks-once : (T : Task) → T.initial ≡ any none → walked T ≡ covered only 1
unfolding eval look_at walk walked
walks-once T e = grind (arith, walk-closed)

module _ (F : Limits) (f≤w : F.facts ≤ F.width) (problem : List ℕ) {p : Problem} (reads : problem_of F problem ≡ answered p) where
  pub no_start :
      p.initial ≡ any none → 1 ≤ F.lines → (plan : List ℕ) (m : ℕ) → read_plan F problem plan ≡ answered m → (g : ℕ) → 1 ≤ g →
      (judge F problem plan g ≡ answered (right 1 1)) ×
      ((out : List ℕ) → list_bytes F 1 ≤ length out →
      write_list F problem plan g out ≡ record { answer = answered (list_bytes F 1); buffer = encode_list F only ++ drop (list_bytes F 1) out })
  unfolding read_plan read_task Answer.◌>>=◌ task_of lines_for written judge_read write_read
  no_start empty-any few plan m read g one =
      answer-then {x = plan_of plan (length p.actions)} (rw reads at read) λ steps e _.
      let T = task_of F p steps in
      let given : read_task F problem plan ≡ answered T = rw (reads, e) in
      let f = task-sound F problem plan T given in
      let c = walks-once T empty-any in
      let j = judged-in T (omega (arith, f.facts, f.width)) g (covered only 1) c (omega (arith, ap visits c)) in (
        rw (given, j),
        λ out room. rw (given, lines-is F T g (length out), j, le-ltb F.lines 1 few, le-ltb (length out) (list_bytes F 1) room),
      )
