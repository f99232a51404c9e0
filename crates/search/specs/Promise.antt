-- What an answer of `search_plans` promises.
use Rattle.std.specs.Prelude.{◌≡◌, ◌⊎◌, List, ℕ, ◌≤◌, ◌<◌, length}
use Rattle.model.specs.Limits.{limits_of, max_length, max_plans}
use Rattle.model.specs.Answer.{Answer, refused, answered}
use Rattle.model.specs.ProblemBytes.{Problem, problem_of}
use Rattle.model.specs.Search.{Search}
use Rattle.model.specs.Operations.{task_of, plans_in}
use Rattle.model.specs.Guarantees.{SearchSays}

-- what a refusal is of: the problem's own, 43 or 44
abbrev pub RefusedFor : List ℕ → ℕ → ℕ → ℕ → Type 0
RefusedFor problem longest n q =
    (problem_of (limits_of problem) problem ≡ refused n q) ⊎
    (((p : Problem) × (problem_of (limits_of problem) problem ≡ answered p) × (max_length < longest) × (n ≡ 43) × (q ≡ 0)) ⊎
    ((p : Problem) × (problem_of (limits_of problem) problem ≡ answered p) × (longest ≤ max_length) × (max_plans < length (plans_in p longest)) × (n ≡ 44) × (q ≡ 0)))

-- Otherwise the problem is read as some p, and the answer says what it means: the first right plan, and none before it is right; that none
-- is right; or undecided at the first plan whose walk needs more than the visits left; each with the visits used in all.
abbrev pub SearchPromised : List ℕ → ℕ → ℕ → Answer Search → Type 0
SearchPromised problem longest grant (refused n q) = RefusedFor problem longest n q
SearchPromised problem longest grant (answered r) =
    (p : Problem) × (problem_of (limits_of problem) problem ≡ answered p) × (longest ≤ max_length) × (length (plans_in p longest) ≤ max_plans) ×
    SearchSays (task_of (limits_of problem) p) (plans_in p longest) grant r
