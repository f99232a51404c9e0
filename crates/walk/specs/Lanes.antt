-- The lanes of a block.
use Rattle.std.specs.Prelude.{◌≡◌, List, ℕ, suc, ◌+◌, ◌-◌, ◌*◌, ◌%◌, ◌^◌, ◌≤◌, ◌<◌}
use Rattle.model.specs.Kleene.{Kleene}
use Rattle.model.specs.Case.{case_of}
use Rattle.cases.specs.Blocks.{max_levels, block_case}

-- the lanes have the case `root` and the cases of its next facts, from fact k on, so many levels of them
abbrev pub IsBlock : (ℕ → List Kleene) → List Kleene → ℕ → ℕ → Type 0
IsBlock case root k levels = (j : ℕ) → j < 64 → case j ≡ block_case root k levels j

-- the case in lane j of the block of (k, v), over n facts
abbrev pub block_of : ℕ → ℕ → ℕ → ℕ → ℕ → ℕ → List Kleene
block_of w n k v levels j = block_case (case_of w n k v) k levels j

-- the levels of the first block over so many facts: the odd ones, so that all blocks below it are full
abbrev pub first_levels : ℕ → ℕ
first_levels facts = (facts - 1) % max_levels + 1

-- the levels of a block below a case that leaves so many facts open
pub record LevelsOf (left r : ℕ) : Type 0 where
  pub few : r ≤ max_levels
  pub inside : r ≤ left
  pub some : 0 < left → 0 < r

-- a lane of level e: lane 1 is of level 0, and the parts of a lane are a level below it
pub record OnLevel (lane e : ℕ) : Type 0 where
  pub from : 2 ^ e ≤ lane
  pub to : lane < 2 ^ suc e

-- The lane after a lane and all below it, in the order of the walk. A yes part, 2i + 1, is the last below lane i, so what comes after it
-- comes after i; after a no part, 2i, comes the yes part beside it. So one adds 1, and halves while it can. It is 1 where none comes after.
pub record IsAfter (lane next : ℕ) : Type 0 where
  pub up : ℕ
  pub is : lane + 1 ≡ next * 2 ^ up
  pub odd : next % 2 ≡ 1
