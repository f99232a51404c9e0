-- The states that a run comes to are the first of its states, as many as its end says. Assumes nothing.
use Rattle.std.proofs.Common.{◌≡◌, refl, ap, Bool, true, false, cond, List, [], ◌∷◌, ℕ, suc, ◌+◌, length, take, arith}
use Rattle.model.specs.Kleene.{two}
use Rattle.model.specs.Formula.{Formula}
use Rattle.model.specs.Action.{Action, applicable, step}
use Rattle.model.specs.Run.{Outcome, at_end, goes_on, Stop, run}
use Rattle.model.specs.Relevance.{states}
use Rattle.explain.specs.Rows.{rows, row_count, RowsAreStates}

-- a row, and where a step is taken those after it
more : (b : Bool) (c : List Bool) (r s : List (List Bool)) → r ≡ take (length r) s → c ∷ cond b r [] ≡ take (length (c ∷ cond b r [])) (c ∷ s)
more true c r s e = ap (λ (t : List (List Bool)). c ∷ t) e
more false c r s e = refl

at-end-count : (b : Bool) (m i : ℕ) → m ≡ 0 + i → 1 + i ≡ row_count m (at_end b)
at-end-count true m i e = omega (arith, e)
at-end-count false m i e = omega (arith, e)

goes-on-count :
    (b : Bool) (c : List Bool) (r : List (List Bool)) (o : Outcome) (s : Stop) (m : ℕ) →
    length r + suc s.step ≡ row_count m o → length (c ∷ cond b r []) + s.step ≡ row_count m (goes_on b o s)
unfolding goes_on
goes-on-count true c r o s m e = omega (arith, e)
goes-on-count false c r o s m e = omega arith

module _ (n : ℕ) where
  firsts : (plan : List Action) (c : List Bool) → rows n plan c ≡ take (length (rows n plan c)) (states n plan c)
  unfolding rows states
  firsts [] c = refl
  firsts (a ∷ plan) c = more (applicable two n a c) c _ _ (firsts plan (step two n a c))

  -- of a run that begins at step i, and has m - i steps
  counts : (goal : Formula) (plan : List Action) (i m : ℕ) (c : List Bool) → m ≡ length plan + i → length (rows n plan c) + i ≡ row_count m (run two n goal plan i c)
  unfolding rows run
  counts goal [] i m c e = at-end-count _ m i e
  counts goal (a ∷ plan) i m c e = goes-on-count (applicable two n a c) c _ _ _ m (counts goal plan (suc i) m (step two n a c) (omega (arith, e)))

pub rows-are-states : RowsAreStates
rows-are-states n goal plan c = (firsts n plan c, omega (arith, counts n goal plan 0 (length plan) c (omega arith)))
