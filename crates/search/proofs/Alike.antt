-- The plans that begin alike, step by step, and those of each length. Assumes nothing.
use Rattle.std.proofs.Common.{◌≡◌, refl, sym, ap, ◌∙◌, List, [], ◌∷◌, ◌++◌, map, append-nil, map-id, ℕ, suc, ◌+◌, ◌-◌, ◌≤◌, ◌<◌, arith, add-one, Result, Ok, Err}
use Rattle.model.specs.Case as model
use Rattle.model.specs.Search.{each_step, plans_of, plans_from, plans_up_to, search}
use Rattle.blocks.specs.declared.problem.Problem.{Problem}
use Rattle.search.specs.declared.plan.Ended.{Ended}
use Rattle.search.specs.declared.plan.Ended.TheVariants.{Right, Undecided}
use Rattle.search.specs.Beginning.{task_with}
use Rattle.search.specs.Trying.{resumes, EndsWithin, Comes, longer, ComesToEnd}
use Rattle.search.proofs.Trying.{steps_next}

within-more : (g h : ℕ) → g ≤ h → (e : Ended) → EndsWithin g e → EndsWithin h e
within-more g h i (Right p left) w = omega arith
within-more g h i (Undecided p) w = tt

-- ---- no more steps

pub leaf-tried : (p : Problem) (first : List ℕ) (more left : ℕ) (r : Result ℕ Ended) → more ≡ 0 → Comes p (first ∷ []) left r → Comes p (longer p first more) left r
unfolding plans_of
leaf-tried p first more left r e t = rw (e, append-nil first) t

-- ---- and one

module _ (p : Problem) (first : List ℕ) (more k left : ℕ) where
  abbrev T : List ℕ → model.Task
  T = task_with p

  -- the plans whose next step is one of n from `step` on
  abbrev from : ℕ → ℕ → List (List ℕ)
  from n step = map (λ q. first ++ q) (each_step n step (plans_of p.actions.count k))

  -- those with the steps below `step` next are tried, and so many visits are left
  pub record Tried (rest step : ℕ) : Type 0 where
    pub within : rest ≤ left
    pub is :
        (grant : ℕ) → left ≤ grant → (after : List (List ℕ)) →
        search T grant (longer p first more ++ after) (grant - left) ≡ search T grant (from (p.actions.count - step) step ++ after) (grant - rest)

  pub tried-none : more ≡ suc k → Tried left 0
  unfolding plans_of
  tried-none e =
      let z : p.actions.count - 0 ≡ p.actions.count = omega arith in
      record { within = omega arith; is = λ grant h after. rw (e, z) refl }

  module _ (rest step : ℕ) (t : Tried rest step) (h : step < p.actions.count) where
    -- those with this step next
    one-step :
        (r : Result ℕ Ended) → Comes p (longer p (first ++ step ∷ []) k) rest r → (grant : ℕ) → left ≤ grant → (after : List (List ℕ)) →
        search T grant (longer p first more ++ after) (grant - left) ≡ resumes grant r (search T grant (from (p.actions.count - suc step) (suc step) ++ after))
    one-step r o grant g after =
        let i : p.actions.count - step ≡ suc (p.actions.count - suc step) = omega arith in
        t.is grant g after ∙
        ap (λ (n : ℕ). search T grant (from n step ++ after) (grant - rest)) i ∙
        ap (λ (l : List (List ℕ)). search T grant l (grant - rest)) (steps_next first (p.actions.count - suc step) step (plans_of p.actions.count k) after) ∙
        o.is grant (omega (arith, t.within)) (from (p.actions.count - suc step) (suc step) ++ after)

    pub tried-ended : (e : Ended) → Comes p (longer p (first ++ step ∷ []) k) rest (Err e) → Comes p (longer p first more) left (Err e)
    tried-ended e o = record { within = within-more rest left t.within e o.within; is = one-step (Err e) o }

    pub tried-one : (a : ℕ) → Comes p (longer p (first ++ step ∷ []) k) rest (Ok a) → Tried a (step + 1)
    tried-one a o = record { within = omega (arith, t.within, o.within); is = rw (add-one step) (one-step (Ok a) o) }

  pub tried-all : (rest step : ℕ) → Tried rest step → p.actions.count ≤ step → Comes p (longer p first more) left (Ok rest)
  unfolding each_step
  tried-all rest step t h =
      record {
        within = t.within;
        is =
            λ grant g after.
            let i : p.actions.count - step ≡ 0 = omega arith in
            t.is grant g after ∙ ap (λ (n : ℕ). search T grant (from n step ++ after) (grant - rest)) i;
      }

-- ---- the lengths

module _ (p : Problem) (longest grant : ℕ) where
  abbrev T' : List ℕ → model.Task
  T' = task_with p

  -- the plans of fewer than l steps are tried, and so many visits are left
  pub record Shorter (left l : ℕ) : Type 0 where
    pub within : left ≤ grant
    pub is : search T' grant (plans_up_to p.actions.count longest) 0 ≡ search T' grant (plans_from p.actions.count l (suc longest - l)) (grant - left)

  pub shorter-none : Shorter grant 0
  unfolding plans_up_to
  shorter-none =
      record {
        within = omega arith;
        is =
            let i : suc longest - 0 ≡ suc longest = omega arith in
            let z : grant - grant ≡ 0 = omega arith in
            rw (z, i) refl;
      }

  module _ (left l : ℕ) (s : Shorter left l) (h : l ≤ longest) where
    one-length :
        (r : Result ℕ Ended) → Comes p (longer p [] l) left r →
        search T' grant (plans_up_to p.actions.count longest) 0 ≡ resumes grant r (search T' grant (plans_from p.actions.count (suc l) (suc longest - suc l)))
    unfolding plans_from
    one-length r t =
        let after = plans_from p.actions.count (suc l) (suc longest - suc l) in
        let i : suc longest - l ≡ suc (suc longest - suc l) = omega arith in
        s.is ∙
        ap (λ (n : ℕ). search T' grant (plans_from p.actions.count l n) (grant - left)) i ∙
        ap (λ (qs : List (List ℕ)). search T' grant (qs ++ after) (grant - left)) (sym (map-id (plans_of p.actions.count l))) ∙
        t.is grant s.within after

    pub shorter-ended : (e : Ended) → Comes p (longer p [] l) left (Err e) → ComesToEnd p longest grant (Err e)
    shorter-ended e t = record { within = within-more left grant s.within e t.within; is = one-length (Err e) t }

    pub shorter-one : (a : ℕ) → Comes p (longer p [] l) left (Ok a) → Shorter a (l + 1)
    shorter-one a t = record { within = omega (arith, t.within, s.within); is = rw (add-one l) (one-length (Ok a) t) }

  pub shorter-all : (left l : ℕ) → Shorter left l → longest < l → ComesToEnd p longest grant (Ok left)
  unfolding plans_from search
  shorter-all left l s h =
      record {
        within = s.within;
        is =
            let i : suc longest - l ≡ 0 = omega arith in
            s.is ∙ ap (λ (n : ℕ). search T' grant (plans_from p.actions.count l n) (grant - left)) i;
      }
