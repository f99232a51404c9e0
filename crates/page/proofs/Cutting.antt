-- The program reads one byte more than a block may have: a file that is cut there has the same text. Assumes nothing.
use Rattle.std.proofs.Common.{◌≡◌, refl, sym, ap, ◌∙◌, List, ◌++◌, ℕ, ◌+◌, ◌<◌, arith, length, take, take_all, length-take-le, [], ◌∷◌}
use borrow.Author.Tests.{lt-leb}
use native.Mathlib.Decide.{dec_lt}
use Rattle.model.specs.{declared.Limits.Limits, Limits.limits_of, Limits.max_problem_bytes, Answer.Answer, Answer.refused, Answer.answered}
use Rattle.model.specs.Read.{Reader, reject, and_then, require, answer_of, header}
use Rattle.model.specs.{ProblemBytes.problem, ProblemBytes.problem_of, ProblemBytes.plan, ProblemBytes.plan_of, Operations.task_of, Operations.read_task}
use Rattle.model.specs.DeskText.{answer_line, answer_rest, first_line, later_lines, desk_text}
use Rattle.model.specs.Answer as Answer
use Rattle.model.specs.Read as Read
use Rattle.page.specs.Cut.{max_plan_bytes, CutFilesKeepTheirText}

header-over :
    (s : List ℕ) (number most : ℕ) (versions : Reader (Unit {0})) (p : ℕ) → most < length s → header s number most versions p ≡ reject number most
unfolding header Read.◌>>◌ and_then require
header-over s number most versions p h = rw (lt-leb (length s) most h)

problem-over : (F : Limits) (s : List ℕ) → max_problem_bytes < length s → problem_of F s ≡ refused 10 max_problem_bytes
unfolding problem_of problem answer_of Read.◌>>◌ and_then
problem-over F s h = rw (header-over s 10 max_problem_bytes (Read.of_version s F.version 12) 0 h)

plan-over : (m : ℕ) (t : List ℕ) → max_plan_bytes < length t → plan_of t m ≡ refused 30 max_plan_bytes
unfolding plan_of plan answer_of Read.◌>>◌ and_then
plan-over m t h = rw (header-over t 30 max_plan_bytes (Read.of_version t 1 32) 0 h)

-- an answer that is the same for all that is over the limit
cut : {A : Type 0} (f : List ℕ → Answer A) (most : ℕ) (x : Answer A) → ((s : List ℕ) → most < length s → f s ≡ x) → (s : List ℕ) → f (take (most + 1) s) ≡ f s
cut f most x over s =
    elim (dec_lt most (length s)) [
      | yes h ↦ over (take (most + 1) s) (omega (arith, length-take-le (most + 1) s (omega arith))) ∙ sym (over s h)
      | no h ↦ ap f (take_all (most + 1) s (omega arith))
    ]

-- what is cut off is no block's version
same-version : (s : List ℕ) → limits_of (take (max_problem_bytes + 1) s) ≡ limits_of s
same-version [] = refl
same-version (b ∷ s) = refl

task-cut : (F : Limits) (s t : List ℕ) → read_task F (take (max_problem_bytes + 1) s) (take (max_plan_bytes + 1) t) ≡ read_task F s t
unfolding read_task
task-cut F s t =
    λ i.
    Answer.◌>>=◌ (cut (problem_of F) max_problem_bytes _ (problem-over F) s i)
    (λ p. Answer.◌>>=◌ (cut (λ (l : List ℕ). plan_of l (length p.actions)) max_plan_bytes _ (plan-over (length p.actions)) t i) (λ steps. answered (task_of F p steps)))

pub text-cut : CutFilesKeepTheirText
unfolding desk_text first_line later_lines
text-cut s t = rw (same-version s) (ap (λ x. answer_line (limits_of s) x ++ answer_rest (limits_of s) x) (task-cut (limits_of s) s t))
