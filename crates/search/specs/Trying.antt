-- What is answered of a plan, of the plans that begin alike, and of all plans up to a length.
use Rattle.std.specs.Prelude.{◌≡◌, Ok, Err, Result, List, ◌++◌, map, ℕ, ◌-◌, ◌≤◌}
use Rattle.model.specs.Search.{Search, first_right, undecided_at, none_right, plans_of, plans_up_to, search}
use Rattle.blocks.specs.declared.problem.Problem.{Problem}
use Rattle.search.specs.Beginning.{task_with}
use Rattle.search.specs.declared.plan.Ended.{Ended}
use Rattle.search.specs.declared.plan.Ended.TheVariants.{Right, Undecided}

-- how a search under a grant ends that ended so
abbrev pub ended_at : ℕ → Ended → Search
ended_at grant (Right p left) = first_right p (grant - left)
ended_at grant (Undecided p) = undecided_at p grant

-- what a search under a grant does that has come so far, and would go on so: it does where none is right yet
abbrev pub resumes : ℕ → Result ℕ Ended → (ℕ → Search) → Search
resumes grant (Ok left) rest = rest (grant - left)
resumes grant (Err e) rest = ended_at grant e

-- no more visits are left than there were
abbrev pub EndsWithin : ℕ → Ended → Type 0
EndsWithin g (Right p left) = left ≤ g
EndsWithin g (Undecided p) = Unit {0}

abbrev pub Within : ℕ → Result ℕ Ended → Type 0
Within g (Ok left) = left ≤ g
Within g (Err e) = EndsWithin g e

-- with so many visits left, a search of the problem comes so far by these plans, whatever plans come after them
pub record Comes (p : Problem) (plans : List (List ℕ)) (left : ℕ) (r : Result ℕ Ended) : Type 0 where
  pub within : Within left r
  pub is :
      (grant : ℕ) → left ≤ grant → (after : List (List ℕ)) →
      search (task_with p) grant (plans ++ after) (grant - left) ≡ resumes grant r (search (task_with p) grant after)

-- the plans that begin with these steps and have so many more
abbrev pub longer : Problem → List ℕ → ℕ → List (List ℕ)
longer p first more = map (λ q. first ++ q) (plans_of p.actions.count more)

-- a search of all plans up to a length comes so far
pub record ComesToEnd (p : Problem) (longest grant : ℕ) (r : Result ℕ Ended) : Type 0 where
  pub within : Within grant r
  pub is : search (task_with p) grant (plans_up_to p.actions.count longest) 0 ≡ resumes grant r none_right
