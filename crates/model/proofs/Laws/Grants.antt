-- No walk is free: a grant of none ends it. Assumes nothing.
use Rattle.model.proofs.Words.{ℕ, ◌≤◌, arith, Look, visits, walk_from}

module _ (w : ℕ) (look : ℕ → ℕ → Look) where
  pub visits-walk : (d : ℕ) (l : Look) (k v : ℕ) → 1 ≤ visits (walk_from w look d l k v)
  unfolding walk_from
  visits-walk d l k v = grind arith
