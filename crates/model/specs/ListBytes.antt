-- List blocks, and the refusals of the block: 60 to 64, and 71.
use Rattle.std.specs.Prelude.{List, [], ◌∷◌, ◌++◌, ℕ, zero, suc, ◌+◌, ◌-◌, ◌*◌, ◌/◌, ◌%◌, length, get_or, take, drop, eqb}
use Rattle.model.specs.declared.Limits.{Limits}
use Rattle.model.specs.Answer.{Answer}
use Rattle.model.specs.Walk.{Line}
use Rattle.model.specs.Limits.{is_version}
use Rattle.model.specs.Read.{Reader, ◌>>◌, done, require, answer_of, head_bytes, of_version, header, big_endian, bytes_of, block}

module _ (F : Limits) (s : List ℕ) where
  -- the line whose first byte is at p: its kind, its k, and the bytes of its value
  unfoldable pub line_at : ℕ → Line
  line_at p = record { kind = get_or s p 0; k = get_or s (p + 1) 0; value = big_endian (take (F.line - 2) (drop (p + 2) s)) }

  unfoldable pub lines_from : ℕ → ℕ → List Line
  lines_from zero p = []
  lines_from (suc n) p = line_at p ∷ lines_from n (p + F.line)

  -- 62 for a version that there is none of, and then 71 for another one than the problem's
  unfoldable pub of_the_problem : Reader (Unit {0})
  of_the_problem = do
    require (is_version (get_or s 0 0)) 62 0
    of_version s F.version 71

  -- list block: 60, at the most bytes that one may have, if it has more; 61 to 63, and 71, for its header; 64, at its length, if its last line is not
  -- whole
  unfoldable pub case_list : Reader (List Line)
  case_list = do
    header s 60 (head_bytes + F.line * F.lines) of_the_problem
    require (eqb ((length s - head_bytes) % F.line) 0) 64 (length s)
    done (lines_from ((length s - head_bytes) / F.line) head_bytes)

  unfoldable pub list_of : Answer (List Line)
  list_of = answer_of (case_list 0)

-- The same layout, written.
unfoldable pub line_bytes : Limits → Line → List ℕ
line_bytes F l = l.kind ∷ l.k ∷ bytes_of (F.line - 2) l.value

unfoldable pub lines_bytes : Limits → List Line → List ℕ
lines_bytes F [] = []
lines_bytes F (l ∷ ls) = line_bytes F l ++ lines_bytes F ls

unfoldable pub encode_list : Limits → List Line → List ℕ
encode_list F ls = block F.version (lines_bytes F ls)
