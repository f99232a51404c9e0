-- A run of a merged plan is two runs beside one another, where each of its actions does in one hall what it does there alone. Assumes nothing.
use Rattle.std.proofs.Common.{◌≡◌, refl, sym, ap, ◌∙◌, Bool, true, false, ◌&&◌, List, [], ◌∷◌, ◌++◌, map, ℕ, suc, ◌+◌, ◌-◌, ◌<◌, length, arith, ltb, ltb-true, ltb-false}
use Rattle.model.specs.declared.Limits.{Limits}
use Rattle.model.specs.Kleene.{Logic, two}
use Rattle.model.specs.Formula.{Formula, eval}
use Rattle.model.specs.Action.{Action, applicable, step}
use Rattle.model.specs.Run.{Part, part_of, Outcome, reached, missed, blocked, at_end, goes_on, run}
use Rattle.model.specs.ProblemBytes.{Problem, action_at}
use Rattle.model.specs.WellFormed.{Each, ProblemOk}
use Rattle.model.specs.Merging.{halls}
use Rattle.model.proofs.Laws.Relevance.{step-length}
use Rattle.merge.specs.Beside.{of_first, of_second, first_plan, second_plan, place_of, moved_part, in_merged, beside}
use Rattle.merge.proofs.Acting.{both-holds, first-does, second-does}
use Rattle.merge.proofs.{Sound.each-at, Steps.first-action, Steps.second-action}

-- ---- a run that begins a step later

-- the same end, one step later
abbrev pub later : Outcome → Outcome
later reached = reached
later missed = missed
later (blocked p) = blocked (record { step = suc p.step; part = p.part })

end-later : (b : Bool) → at_end b ≡ later (at_end b)
end-later b = grind arith

goes-later :
    (b : Bool) (o : Outcome) (i : ℕ) (p : Part) →
    goes_on b (later o) (record { step = suc i; part = p }) ≡ later (goes_on b o (record { step = i; part = p }))
unfolding goes_on
goes-later b o i p = grind arith

pub run-later :
    {X : Type 0} (L : Logic X) (n : ℕ) (goal : Formula) (plan : List Action) (i : ℕ) (c : List X) →
    run L n goal plan (suc i) c ≡ later (run L n goal plan i c)
unfolding run
run-later L n goal [] i c = end-later (L.holds (eval L c goal))
run-later L n goal (a ∷ plan) i c =
    rw (run-later L n goal plan (suc i) (step L n a c)) (goes-later (applicable L n a c) (run L n goal plan (suc i) (step L n a c)) i (part_of L n a c))

-- ---- a step before the others, in two runs beside one another

-- a step of the other hall comes first
place-other : (owns : List Bool) (i : ℕ) → place_of (false ∷ owns) i ≡ suc (place_of owns i)
place-other owns i = grind arith

in-merged-other : (owns : List Bool) (n : ℕ) (o : Outcome) → in_merged (false ∷ owns) n o ≡ later (in_merged owns n o)
in-merged-other owns n o = grind (arith, place-other)

-- a step of the hall's own comes first
in-merged-own : (owns : List Bool) (n : ℕ) (o : Outcome) → in_merged (true ∷ owns) n (later o) ≡ later (in_merged owns n o)
in-merged-own owns n o = grind arith

beside-later : (x y : Outcome) → beside (later x) (later y) ≡ later (beside x y)
beside-later x y = grind arith

-- a hall that is blocked at once is so before the other
beside-first : (p : Part) (o : Outcome) → beside (blocked (record { step = 0; part = p })) (later o) ≡ blocked (record { step = 0; part = p })
beside-first p o = grind arith

beside-second : (o : Outcome) (p : Part) → beside (later o) (blocked (record { step = 0; part = p })) ≡ blocked (record { step = 0; part = p })
beside-second o p = grind arith

both-ends : (n : ℕ) (b c : Bool) → at_end (b && c) ≡ beside (in_merged [] 0 (at_end b)) (in_merged [] n (at_end c))
both-ends n b c = grind arith

-- ---- one step of the merged plan

module _ (n : ℕ) (owns others : List Bool) (x y : Outcome) (p p' : Part) where
  -- the first hall's: x is what follows it there, y the second hall's run
  first-turn :
      (b : Bool) → (b ≡ false → p' ≡ moved_part 0 p) →
      goes_on b (later (beside (in_merged owns 0 x) (in_merged others n y))) (record { step = 0; part = p' }) ≡
      beside (in_merged (true ∷ owns) 0 (goes_on b (later x) (record { step = 0; part = p }))) (in_merged (false ∷ others) n y)
  unfolding goes_on
  first-turn true h = rw (in-merged-own owns 0 x, in-merged-other others n y) (sym (beside-later (in_merged owns 0 x) (in_merged others n y)))
  first-turn false h = rw (in-merged-other others n y, h refl) (sym (beside-first (moved_part 0 p) (in_merged others n y)))

  -- the second hall's: x is the first hall's run, y what follows it there
  second-turn :
      (b : Bool) → (b ≡ false → p' ≡ moved_part n p) →
      goes_on b (later (beside (in_merged owns 0 x) (in_merged others n y))) (record { step = 0; part = p' }) ≡
      beside (in_merged (false ∷ owns) 0 x) (in_merged (true ∷ others) n (goes_on b (later y) (record { step = 0; part = p })))
  unfolding goes_on
  second-turn true h = rw (in-merged-other owns 0 x, in-merged-own others n y) (sym (beside-later (in_merged owns 0 x) (in_merged others n y)))
  second-turn false h = rw (in-merged-other owns 0 x, h refl) (sym (beside-second (in_merged owns 0 x) (moved_part n p)))

-- ---- a plan

module _ (F G : Limits) (p q : Problem) (ok : ProblemOk F p) (ok' : ProblemOk G q) where
  abbrev n : ℕ
  n = p.facts

  abbrev m : ℕ
  m = q.facts

  abbrev k : ℕ
  k = length p.actions

  abbrev first-alone : List ℕ → List Bool → Outcome
  first-alone plan s = run two n p.goal (map (action_at p.actions) (first_plan k plan)) 0 s

  abbrev second-alone : List ℕ → List Bool → Outcome
  second-alone plan t = run two m q.goal (map (action_at q.actions) (second_plan k plan)) 0 t

  abbrev merged-run : List ℕ → ℕ → List Bool → Outcome
  merged-run plan i c = run two (n + m) (halls p q).goal (map (action_at (halls p q).actions) plan) i c

  -- both halls' runs of a plan, beside one another
  abbrev both-runs : List ℕ → List Bool → List Bool → Outcome
  both-runs plan s t = beside (in_merged (of_first k plan) 0 (first-alone plan s)) (in_merged (of_second k plan) n (second-alone plan t))

  abbrev Runs : List ℕ → Type 0
  Runs plan = (s t : List Bool) → length s ≡ n → length t ≡ m → merged-run plan 0 (s ++ t) ≡ both-runs plan s t

  -- one step more before a plan
  module _ (b : ℕ) (below : b < k + length q.actions) (plan : List ℕ) (rest : Runs plan) where
    follows : (s t : List Bool) → length s ≡ n → length t ≡ m → merged-run plan 1 (s ++ t) ≡ later (both-runs plan s t)
    follows s t u v = run-later two (n + m) (halls p q).goal (map (action_at (halls p q).actions) plan) 0 (s ++ t) ∙ ap later (rest s t u v)

    by-hall : (own : Bool) → ltb b k ≡ own → Runs (b ∷ plan)
    unfolding run
    by-hall true h s t u v =
        let l = ltb-true b k h in
        let a = action_at p.actions b in
        let does = first-does n m s t u v F a (each-at _ p.actions b l ok.actions) in
        let s' = step two n a s in
        rw (h, first-action p q b l, does.applies, does.steps, follows s' t (step-length n a s) v)
        (rw (run-later two n p.goal (map (action_at p.actions) (first_plan k plan)) 0 s')
        (first-turn n (of_first k plan) (of_second k plan) (first-alone plan s') (second-alone plan t) _ _ _ does.part))
    by-hall false h s t u v =
        let from = ltb-false b k h in
        let l : b - k < length q.actions = omega arith in
        let at-b : k + (b - k) ≡ b = omega arith in
        let a = action_at q.actions (b - k) in
        let is = rw at-b at (second-action p q (b - k) l) in
        let does = second-does n m s t u v G a (each-at _ q.actions (b - k) l ok'.actions) in
        let t' = step two m a t in
        rw (h, is, does.applies, does.steps, follows s t' u (step-length m a t))
        (rw (run-later two m q.goal (map (action_at q.actions) (second_plan k plan)) 0 t')
        (second-turn n (of_first k plan) (of_second k plan) (first-alone plan s) (second-alone plan t') _ _ _ does.part))

  pub runs : (plan : List ℕ) → Each (λ b. b < k + length q.actions) plan → Runs plan
  unfolding run
  runs [] e s t u v = rw (both-holds n m s t u v p.goal q.goal ok.goal ok'.goal) (both-ends n (eval two s p.goal) (eval two t q.goal))
  runs (b ∷ plan) (below, more) s t u v = by-hall b below plan (runs plan more) (ltb b k) refl s t u v
