-- A file that is cut one byte past the most that its block may have.
use Rattle.std.specs.Prelude.{◌≡◌, List, ℕ, ◌+◌, take}
use Rattle.model.specs.Read.{head_bytes}
use Rattle.model.specs.Limits.{limits_of, max_problem_bytes, max_steps}
use Rattle.model.specs.DeskText.{desk_text}

abbrev pub max_plan_bytes : ℕ
max_plan_bytes = head_bytes + max_steps

-- the cut files have the same page: a longer file is refused as too long, wherever it ends
abbrev pub CutFilesKeepTheirText : Type 0
CutFilesKeepTheirText =
    (problem plan : List ℕ) →
    let cut = take (max_problem_bytes + 1) problem in
    desk_text (limits_of cut) cut (take (max_plan_bytes + 1) plan) ≡ desk_text (limits_of problem) problem plan
