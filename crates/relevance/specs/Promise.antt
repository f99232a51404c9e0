-- What an answer of a call that tells relevant facts promises, and every byte of the work area with it, by how it lays a run out.
use Rattle.std.specs.Prelude.{◌≡◌, ◌≢◌, ◌⊎◌, List, ℕ, ◌≤◌, ◌<◌, length, take, drop}
use Rattle.model.specs.Answer.{Answer, refused, answered}
use Rattle.model.specs.Run.{reached}
use Rattle.model.specs.Case.{bit, Task, run_of, IsState}
use Rattle.model.specs.Relevance.{is_relevant, AgreeOn, Layout}
use Rattle.model.specs.Operations.{run_read}

module _ (L : Layout) (R : Answer Task) (s : ℕ) where
  -- T was read, and s is a state of it
  pub record Runs (T : Task) : Type 0 where
    pub read : R ≡ answered T
    pub state : IsState T s

  -- what a refusal is of: the run's own, 41 or 42
  abbrev pub RefusedFor : ℕ → ℕ → ℕ → Type 0
  RefusedFor room n q =
      (run_read R s ≡ refused n q) ⊎
      (((T : Task) × Runs T × (run_of T s ≢ reached) × (n ≡ 41) × (q ≡ 0)) ⊎
      ((T : Task) × Runs T × (run_of T s ≡ reached) × (room < L.need T) × (n ≡ 42) × (q ≡ 0)))

  -- the set m that is answered, and what the work area holds
  pub record Rests (T : Task) (m : ℕ) (before after : List ℕ) : Type 0 where
    pub runs : Runs T
    pub is_reached : run_of T s ≡ reached
    -- it is one of declared facts only
    pub is_state : IsState T m
    -- a declared fact's bit in it is whether the fact matters before the run
    pub each_bit : (f : ℕ) → f < T.facts → bit T.width m f ≡ is_relevant T s f
    -- from any state that has the same values of these facts the goal is reached too
    pub reached_too : (t : ℕ) → IsState T t → AgreeOn T m s t → run_read R t ≡ answered reached
    -- the first bytes hold the run as it is laid out, and the rest is unchanged
    pub fits : L.need T ≤ length before
    pub holds : take (L.need T) after ≡ L.laid_out T s
    pub rest : drop (L.need T) after ≡ drop (L.need T) before

  -- a refused call leaves the work area as it was
  abbrev pub RelevantPromised : List ℕ → Answer ℕ → List ℕ → Type 0
  RelevantPromised before (refused n q) after = (after ≡ before) × RefusedFor (length before) n q
  RelevantPromised before (answered m) after = (T : Task) × Rests T m before after
