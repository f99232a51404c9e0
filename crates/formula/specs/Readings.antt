-- What the readers answer.
use Rattle.std.specs.Prelude.{◌≡◌, List, ℕ, ◌+◌, ◌<◌, ◌≤◌, length, leb}
use Rattle.model.specs.Limits.{max_depth}
use Rattle.model.specs.Faults.{fault_number}
use Rattle.model.specs.Formula.{Formula}
use Rattle.model.specs.Read.{Read, reject, got, Reader, done, position, require, ◌>>=◌, ◌>>◌}
use Rattle.model.specs.FormulaBytes.{Group, mark, members, item, stated}
use Rattle.model.specs.declared.Refusal.{Refusal}
use Rattle.std.specs.Prelude.{Result, Ok, Err}

-- a refusal as a reader gives it
abbrev pub rejected : {A : Type 0} → Refusal → Read A
rejected r = reject (fault_number r.fault) r.place

-- what a reader gives that answers the position after what it read
abbrev pub position_read : Result ℕ Refusal → Read (Unit {0})
position_read (Err r) = rejected r
position_read (Ok q) = got tt q

-- what was read is let go
unfoldable pub forgotten : {A : Type 0} → Read A → Read (Unit {0})
forgotten (reject n q) = reject n q
forgotten (got a q) = got tt q

-- so many members of a group of that kind, from p on, of bytes that end at `end`
abbrev pub members_read : List ℕ → ℕ → ℕ → ℕ → Group → ℕ → ℕ → Read (Unit {0})
members_read s end facts left g n p = forgotten (members s end facts (item s end facts left (mark g)) n p)

-- what follows a length field whose stated bytes end at `end`, as `formula` has it
unfoldable pub stated_formula : List ℕ → ℕ → ℕ → Reader Formula
stated_formula s end facts = do
  f ← item s end facts max_depth 0
  stop ← position
  require (leb end stop) 21 stop
  done f

-- the length field at p, two bytes: the refusal, or where the stated bytes end
abbrev pub stated_of : ℕ → Result ℕ Refusal → Read ℕ
stated_of p (Err r) = rejected r
stated_of p (Ok end) = got end (p + 2)

abbrev pub Within : List ℕ → ℕ → Result ℕ Refusal → Type 0
Within s p (Err r) = Unit {0}
Within s p (Ok end) = (p + 2 < end) × (end ≤ length s)

pub record EndStated (s : List ℕ) (p : ℕ) (r : Result ℕ Refusal) : Type 0 where
  pub is : stated_of p r ≡ stated s p
  pub within : Within s p r
