-- What an answer of `search_plans` promises: from the equation with the definition and the theorem about the definitions. Assumes nothing.
use Rattle.std.proofs.Common.{◌≡◌, refl, ◌∙◌, inl, inr, List, ℕ}
use Rattle.model.specs.Limits.{limits_of}
use Rattle.model.specs.Answer.{Answer, refused, answered}
use Rattle.model.specs.ProblemBytes.{Problem, problem_of}
use Rattle.model.specs.Search.{Search}
use Rattle.model.specs.Operations.{search_plans}
use Rattle.model.proofs.Guarantees.{limits-sensible, guarantees-of}
use Rattle.model.proofs.Laws.Searching.{answers-or-refuses}
use Rattle.search.specs.Promise.{SearchPromised}

module _ (problem : List ℕ) (longest grant : ℕ) where
  abbrev gives : Answer Search
  gives = search_plans (limits_of problem) problem longest grant

  read-promised : (p : Problem) → problem_of (limits_of problem) problem ≡ answered p → (r : Answer Search) → r ≡ gives → SearchPromised problem longest grant r
  read-promised p h r e =
      elim (answers-or-refuses (limits_of problem) (limits-sensible problem) problem p h longest) [
        | inl (l, f, a) ↦
            rw (e ∙ a grant) (p, h, l, f, (((guarantees-of problem).searching problem p h).says longest grant l f _).0 (a grant))
        | inr (inl (m, a)) ↦ rw (e ∙ a grant) (inr (inl (p, h, m, refl, refl)))
        | inr (inr (l, m, a)) ↦ rw (e ∙ a grant) (inr (inr (p, h, l, m, refl, refl)))
      ]

  pub search-promised : (r : Answer Search) → r ≡ gives → SearchPromised problem longest grant r
  search-promised r e = by-problem (problem_of (limits_of problem) problem) refl
    where
      same : (n q : ℕ) → problem_of (limits_of problem) problem ≡ refused n q → r ≡ refused n q → SearchPromised problem longest grant r
      same n q h k = rw k (inl h)

      by-problem : (x : Answer Problem) → problem_of (limits_of problem) problem ≡ x → SearchPromised problem longest grant r
      by-problem (refused n q) h = same n q h (e ∙ (guarantees-of problem).all_input.problem_refuses_first problem longest grant n q h)
      by-problem (answered p) h = read-promised p h r e
