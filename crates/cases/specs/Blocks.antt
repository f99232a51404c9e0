-- A block of the walk: a case and the cases of its next facts, a lane each, looked at at once. The lanes are in heap order:
--
--          1             lane 1 is the block's own case, and fixes none of these facts
--      2       3         fact k is no in lane 2, and yes in lane 3
--    4   5   6   7       then fact k + 1 is no in the lanes 4 and 6, and yes in 5 and 7
--
-- So the parts of the case in lane i are in the lanes 2i, its next fact no, and 2i + 1, its next fact yes; five facts take 63 lanes. Lane 0
-- stands for nothing, and has the block's own case too.
use Rattle.std.specs.Prelude.{cond, List, [], ◌∷◌, ◌++◌, ℕ, zero, suc, ◌+◌, ◌/◌, ◌%◌, get_or, set, eqb, ltb}
use Rattle.model.specs.Kleene.{Kleene, Unknown, known}

-- the most facts that a block splits on
abbrev pub max_levels : ℕ
max_levels = 5

-- the values that a lane's case fixes, the block's next fact first; lane j is reached from lane j / 2 (the first number bounds the steps)
unfoldable pub path_of : ℕ → ℕ → List Kleene
path_of zero j = []
path_of (suc n) j = cond (ltb j 2) [] (path_of n (j / 2) ++ (known (eqb (j % 2) 1) ∷ []))

-- the value in lane j of the block's fact e, of 64 lanes
unfoldable pub level_value : ℕ → ℕ → Kleene
level_value e j = get_or (path_of 6 j) e Unknown

-- the case in lane j of the block of d facts from k on whose own case is `root`
unfoldable pub block_case : List Kleene → ℕ → ℕ → ℕ → List Kleene
block_case root k zero j = root
block_case root k (suc d) j = set (block_case root k d j) (k + d) (level_value d j)
