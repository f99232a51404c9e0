-- The states of a run, a line each.
use Rattle.std.specs.Prelude.{List, [], ◌∷◌, ◌++◌, map, ℕ, zero, suc, take, drop, eqb, codes, decimal}
use Rattle.model.specs.declared.Limits.{Limits}
use Rattle.model.specs.Relevance.{number_of}
use Rattle.names.specs.Names.{Names}
use Rattle.told.specs.States.{state_text}

module _ (N : Names) (F : Limits) (n : ℕ) where
  -- the states number i, i + 1, .., so many, of which each has a row of n bytes: 1 where its fact is true
  unfoldable pub states_text : ℕ → ℕ → List ℕ → List ℕ
  states_text i zero rows = []
  states_text i (suc count) rows =
      codes "state " ++ (decimal i ++ (32 ∷ (state_text N F n (number_of F.width (map (eqb 1) (take n rows))) ++ (10 ∷ states_text (suc i) count (drop n rows)))))

  -- states by their numbers, a line each, from number i on
  unfoldable pub numbered_states : ℕ → List ℕ → List ℕ
  numbered_states i [] = []
  numbered_states i (s ∷ ss) = codes "state " ++ (decimal i ++ (32 ∷ (state_text N F n s ++ (10 ∷ numbered_states (suc i) ss))))
