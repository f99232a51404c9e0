-- A problem that was read, and its plans up to a length. Assumes nothing.
use Rattle.std.proofs.Common.{◌≡◌, sym, ap, ◌∙◌, List, ℕ, ◌≤◌, ◌<◌, length, Result, arith}
use Rattle.model.specs.declared.Limits.{Limits}
use Rattle.model.specs.declared.Refusal.{Refusal}
use Rattle.model.specs.Limits.{limits_of, max_length, max_plans}
use Rattle.model.specs.Answer.{refused, answered}
use Rattle.model.specs.Answers.{refusal}
use Rattle.model.specs.ProblemBytes.{problem_of}
use Rattle.model.specs.Search as Search
use Rattle.model.specs.Search.{plan_count, none_right}
use Rattle.model.specs.Operations.{task_of, plans_in, search_plans}
use Rattle.model.proofs.Guarantees.{limits-sensible, guarantees-of}
use Rattle.model.proofs.Laws.Plans.{enumerates}
use Rattle.model.proofs.Laws.Searching.{answers}
use Rattle.blocks.specs.declared.problem.Problem.{Problem}
use Rattle.blocks.specs.Values.{problem}
use Rattle.blocks.proofs.Tasks.{action-count}
use Rattle.search.specs.declared.plan.Ended.{Ended}
use Rattle.search.specs.Beginning.{task_with}
use Rattle.search.specs.Trying.{resumes, ComesToEnd}

-- a search that has come to an end
pub comes-to :
    (p : Problem) (longest grant : ℕ) (r : Result ℕ Ended) → ComesToEnd p longest grant r → (x : Search.Search) → x ≡ resumes grant r none_right →
    x ≡ Search.search (task_with p) grant (plans_in (problem p) longest) 0
comes-to p longest grant r t x e = e ∙ sym (rw (action-count p) t.is)

-- ---- the answer

module _ (s : List ℕ) (longest grant : ℕ) where
  pub search-refused : (y : Refusal) → refusal y ≡ problem_of (limits_of s) s → refusal y ≡ search_plans (limits_of s) s longest grant
  search-refused y e = sym ((guarantees-of s).all_input.problem_refuses_first s longest grant _ _ (sym e))

  module _ (p : Problem) (read : answered (problem p) ≡ problem_of (limits_of s) s) where
    pub search-over : max_length < longest → refused 43 0 ≡ search_plans (limits_of s) s longest grant
    search-over l = sym (((guarantees-of s).searching s (problem p) (sym read)).over_length longest grant l)

    module _ (l : longest ≤ max_length) (count : ℕ) (c : count ≡ plan_count p.actions.count longest) where
      counts : count ≡ length (plans_in (problem p) longest)
      counts = c ∙ ap (λ (m : ℕ). plan_count m longest) (sym (action-count p)) ∙ sym (enumerates (length (problem p).actions) longest).counted

      pub search-many : max_plans < count → refused 44 0 ≡ search_plans (limits_of s) s longest grant
      search-many m = sym (((guarantees-of s).searching s (problem p) (sym read)).too_many longest grant l (omega (arith, counts)))

      pub search-came :
          count ≤ max_plans → p.limits ≡ (limits_of s) → {came : Search.Search} → came ≡ Search.search (task_with p) grant (plans_in (problem p) longest) 0 →
          answered came ≡ search_plans (limits_of s) s longest grant
      search-came m v {came} t =
          ap answered (t ∙ ap (λ (F : Limits). Search.search (task_of F (problem p)) grant (plans_in (problem p) longest) 0) v) ∙
          sym (answers (limits_of s) (limits-sensible s) s (problem p) (sym read) longest grant l (omega (arith, counts)))
