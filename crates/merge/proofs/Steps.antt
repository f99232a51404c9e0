-- The numbers of a merged problem's actions, and the steps of a plan that are a hall's own. Assumes nothing.
use Rattle.std.proofs.Common.{◌≡◌, refl, ◌∙◌, Bool, true, false, cond, List, [], ◌∷◌, map, filter, ℕ, ◌+◌, ◌-◌, ◌≤◌, ◌<◌, arith, length, get_or, ltb, ltb-true, ltb-false, not}
use Rattle.std.proofs.lemmas.List.{length-map, get_or_append_left, get_or-append-add, get_or-map}
use Rattle.std.proofs.lemmas.Bool.{not-true}
use Rattle.model.specs.ProblemBytes.{Problem, action_at}
use Rattle.model.specs.WellFormed.{Each, PlanOk}
use Rattle.model.specs.Merging.{moved_action, halls, new_numbers}
use Rattle.model.proofs.Laws.{Plans.each_map, Tabulate.get_d_tabulate}
use Rattle.merge.specs.Beside.{first_plan, second_plan}

-- ---- numbers

pub numbered : (count i : ℕ) → i < count → get_or (new_numbers count) i 0 ≡ i
numbered count i l = get_d_tabulate count (λ i. i) i 0 l

module _ (p q : Problem) where
  pub first-action : (i : ℕ) → i < length p.actions → action_at (halls p q).actions i ≡ action_at p.actions i
  unfolding action_at
  first-action i l = get_or_append_left p.actions (map (moved_action p.facts) q.actions) _ i l

  pub second-action :
      (i : ℕ) → i < length q.actions → action_at (halls p q).actions (length p.actions + i) ≡ moved_action p.facts (action_at q.actions i)
  unfolding action_at
  second-action i l =
      get_or-append-add p.actions (map (moved_action p.facts) q.actions) i _ ∙ get_or-map (moved_action p.facts) q.actions i _ _ l

-- ---- the steps that are a hall's own

kept-short : (own : ℕ → Bool) (bs : List ℕ) → length (filter own bs) ≤ length bs
kept-short own [] = omega arith
kept-short own (b ∷ bs) = grind (arith, (kept-short own bs))

-- what holds of each step holds of its own ones, by the numbers that these get
kept-each :
    (P Q : ℕ → Type 0) (own : ℕ → Bool) → ((b : ℕ) → P b → own b ≡ true → Q b) → (bs : List ℕ) → Each P bs → Each Q (filter own bs)
kept-each P Q own h [] x = tt
kept-each P Q own h (b ∷ bs) x = by-test (own b) refl (kept-each P Q own h bs x.1)
  where
    by-test : (t : Bool) → own b ≡ t → Each Q (filter own bs) → Each Q (cond t (b ∷ filter own bs) (filter own bs))
    by-test true e rest = (h b x.0 e, rest)
    by-test false e rest = rest

module _ (m k : ℕ) (plan : List ℕ) (ok : PlanOk (m + k) plan) where
  pub first-ok : PlanOk m (first_plan m plan)
  first-ok =
      record {
        count = omega (arith, kept-short (λ b. ltb b m) plan, ok.count);
        actions = kept-each (λ b. b < m + k) (λ b. b < m) (λ b. ltb b m) (λ b l e. ltb-true b m e) plan ok.actions;
      }

  pub second-ok : PlanOk k (second_plan m plan)
  second-ok =
      let own = λ (b : ℕ). not (ltb b m) in
      let few = kept-short own plan in
      let size = length-map (filter own plan) (λ b. b - m) in
      let kept = kept-each (λ b. b < m + k) (λ b. b - m < k) own number plan ok.actions in
      record { count = omega (arith, ok.count); actions = each_map (λ b. b - m < k) (λ b. b < k) (λ b. b - m) (λ b x. x) (filter own plan) kept }
    where
      number : (b : ℕ) → b < m + k → not (ltb b m) ≡ true → b - m < k
      number b l e = let from = ltb-false b m (not-true _ e) in omega arith
