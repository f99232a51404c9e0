-- What an answer of `merge` promises, and every byte of both buffers with it.
use Rattle.std.specs.Prelude.{◌≡◌, ◌⊎◌, true, false, List, ℕ, ◌+◌, ◌≤◌, ◌<◌, length, take, drop}
use Rattle.model.specs.declared.Lengths.{Lengths}
use Rattle.model.specs.Limits.{version2, limits_of, max_facts, max_actions, max_problem_bytes}
use Rattle.model.specs.Answer.{Answer, refused, answered}
use Rattle.model.specs.ProblemBytes.{Problem, problem_of, encode_problem}
use Rattle.model.specs.WellFormed.{Bytes, ProblemOk}
use Rattle.model.specs.Merging.{is_over, halls, new_numbers}
use Rattle.merge.specs.Beside.{Merged, BothHalls}

module _ (first second : List ℕ) where
  -- both blocks are read
  pub record Reads (p q : Problem) : Type 0 where
    pub reads_first : problem_of (limits_of first) first ≡ answered p
    pub reads_second : problem_of (limits_of second) second ≡ answered q

  -- what a refusal is of: the first problem; the second, where the first is read; both together, which are no sound problem; a short buffer
  pub data RefusedFor (room places : ℕ) : ℕ → ℕ → Type 0 where
    by_first : (n place : ℕ) → problem_of (limits_of first) first ≡ refused n place → RefusedFor room places n place
    by_second :
        (p : Problem) (n place : ℕ) → problem_of (limits_of first) first ≡ answered p → problem_of (limits_of second) second ≡ refused n place →
        RefusedFor room places n place
    by_facts : (p q : Problem) → Reads p q → max_facts < p.facts + q.facts → RefusedFor room places 82 0
    by_actions :
        (p q : Problem) → Reads p q → p.facts + q.facts ≤ max_facts → max_actions < length p.actions + length q.actions →
        RefusedFor room places 83 0
    by_formula :
        (p q : Problem) → Reads p q → p.facts + q.facts ≤ max_facts → length p.actions + length q.actions ≤ max_actions →
        (is_over (halls p q).initial ≡ true) ⊎ (is_over (halls p q).goal ≡ true) → RefusedFor room places 84 0
    by_bytes :
        (p q : Problem) → Reads p q → p.facts + q.facts ≤ max_facts → length p.actions + length q.actions ≤ max_actions →
        is_over (halls p q).initial ≡ false → is_over (halls p q).goal ≡ false → max_problem_bytes < length (encode_problem version2 (halls p q)) → RefusedFor room places 85 0
    by_room :
        (p q : Problem) → Reads p q → ProblemOk version2 (halls p q) →
        (room < length (encode_problem version2 (halls p q))) ⊎ (places < length p.actions + length q.actions) → RefusedFor room places 86 0

  -- the lengths n were answered: the block of the merged problem, and the new numbers of all actions, stand in the first bytes of the buffers, and
  -- the rest of them is as it was
  pub record Merges (before before_table : List ℕ) (n : Lengths) (after after_table : List ℕ) : Type 0 where
    pub p : Problem
    pub q : Problem
    pub reads : Reads p q
    pub block : take n.block after ≡ encode_problem version2 (halls p q)
    pub table : take n.table after_table ≡ new_numbers (length p.actions + length q.actions)
    pub count : n.table ≡ length p.actions + length q.actions
    pub holds : Merged (limits_of first) (limits_of second) p q
    pub fits : n.block ≤ length before
    pub table_fits : n.table ≤ length before_table
    pub rest : drop n.block after ≡ drop n.block before
    pub table_rest : drop n.table after_table ≡ drop n.table before_table

  -- a refused call leaves both buffers as they were
  abbrev pub MergePromised : List ℕ → List ℕ → Answer Lengths → List ℕ → List ℕ → Type 0
  MergePromised before before_table (refused n place) after after_table =
      (after ≡ before) × (after_table ≡ before_table) × RefusedFor (length before) (length before_table) n place
  MergePromised before before_table (answered n) after after_table = Merges before before_table n after after_table

  -- what holds of the merged problem of two that are read
  abbrev pub KeepsBoth : Type 0
  KeepsBoth = Bytes first → Bytes second → (p q : Problem) → Reads p q → BothHalls (limits_of first) (limits_of second) p q
