-- A task that was read is within the limits of its version, and the operations on it. Assumes nothing.
use Rattle.model.proofs.Words.{◌≡◌, refl, subst, true, false, ◌⊎◌, inl, inr, List, ℕ, ◌≤◌, arith, take, Limits, Answer, refused, answered, Task, run_of, IsState, judged, look_at, follow, cover_end, list_of, lines_for, lines_read, follow_read, cover_read, ◌>>=◌, ◌>>◌, done, Problem, ending, parts, body, problem, problem_of, is_state_number, run_read, task_of, read_task, TaskOk}
use Rattle.model.specs.Answer as Answer
use Rattle.model.proofs.Laws.Reading.{then-got, got-inj, answer-got, count_gives}

-- what comes after an answer
pub answer-then :
    {A B C : Type 0} {x : Answer A} {k : A → Answer B} {b : B} → Answer.◌>>=◌ x k ≡ answered b →
    ((a : A) → x ≡ answered a → k a ≡ answered b → C) → C
unfolding Answer.◌>>=◌
answer-then h f = grind arith

-- what a refusal is of
pub refusal-of :
    {A B : Type 0} {k : A → Answer B} {n q : ℕ} (x : Answer A) → Answer.◌>>=◌ x k ≡ refused n q →
    (x ≡ refused n q) ⊎ ((a : A) × (x ≡ answered a) × (k a ≡ refused n q))
unfolding Answer.◌>>=◌
refusal-of x h = grind arith

-- the test of a state's number tells
pub state-tested : (T : Task) (s : ℕ) → (IsState T s × (is_state_number T s ≡ true)) ⊎ ((IsState T s → ⊥) × (is_state_number T s ≡ false))
unfolding is_state_number
state-tested T s = grind arith

module _ (F : Limits) where
  -- a problem that was read has no more facts
  pub problem-fits : (problem' : List ℕ) (p : Problem) → problem_of F problem' ≡ answered p → p.facts ≤ F.facts
  unfolding problem_of problem body parts ending ◌>>=◌ ◌>>◌ done
  problem-fits problem' p e =
      then-got (answer-got _ e).1 λ _ p₀ _ g₀.
      then-got g₀ λ n p₁ e₁ g₁.
      then-got g₁ λ _ _ _ g₂.
      then-got g₂ λ _ _ _ g₃.
      then-got g₃ λ _ _ _ g₄.
      then-got g₄ λ _ _ _ g₅.
      then-got g₅ λ _ _ _ g₆.
      then-got g₆ λ _ _ _ g₇.
      let l = ((count_gives problem' 15 1 F.facts p₀).of n p₁ e₁).1 in
      subst (λ (x : Problem). x.facts ≤ F.facts) (got-inj g₇).0 l

  pub task-sound : (problem plan : List ℕ) (T : Task) → read_task F problem plan ≡ answered T → TaskOk F T
  unfolding read_task task_of Answer.◌>>=◌
  task-sound problem plan T h = grind (arith, problem-fits)

-- the run of one state of a task that was read
module _ (T : Task) where
  pub run-answers : (s : ℕ) → IsState T s → run_read (answered T) s ≡ answered (run_of T s)
  unfolding run_read Answer.◌>>=◌
  run-answers s h = elim (state-tested T s) [ inl y ↦ rw y.1 | inr x ↦ absurd (x.0 h) ]

  pub run_no_state : (s : ℕ) → (IsState T s → ⊥) → run_read (answered T) s ≡ refused 40 0
  unfolding run_read Answer.◌>>=◌
  run_no_state s h = elim (state-tested T s) [ inl y ↦ absurd (h y.0) | inr x ↦ rw x.1 ]

-- lists of a task that was read
module _ (F : Limits) (T : Task) where
  pub lines-is : (g room : ℕ) → lines_read F (answered T) g room ≡ lines_for F room (judged T g)
  unfolding lines_read Answer.◌>>=◌
  lines-is g room = refl

  pub follow-is : (list : List ℕ) → follow_read F (answered T) list ≡ Answer.◌>>=◌ (list_of F list) (λ ls. follow T.width (look_at T) T.facts ls 0 0)
  unfolding follow_read Answer.◌>>=◌
  follow-is list = refl

  pub cover-is :
      (list : List ℕ) (m : ℕ) → cover_read F (answered T) list m ≡ Answer.◌>>=◌ (list_of F list) (λ ls. cover_end T.width (look_at T) T.facts (take m ls) 0 0)
  unfolding cover_read Answer.◌>>=◌
  cover-is list m = refl
