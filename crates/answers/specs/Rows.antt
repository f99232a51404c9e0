-- What is told of each fault.
use Rattle.std.specs.Prelude.{List, ℕ, codes}
use Rattle.model.specs.declared.fault.Block.{Block}
use Rattle.model.specs.declared.fault.Block.TheVariants as block
use Rattle.model.specs.declared.fault.HeaderFault.{HeaderFault}
use Rattle.model.specs.declared.fault.HeaderFault.TheVariants.{TooLong, TooShort, Version, Length}
use Rattle.model.specs.declared.fault.Fault.{Fault}
use Rattle.model.specs.declared.fault.Fault.TheVariants.{Header, BlockEnds, FactCount, ActionCount, FormulaLength, Member, Depth, FormulaEnds, FormulaLeft, EffectCount, EffectLiteral, EffectOrder, BytesLeft, StepAction, StateNumber, RunNotReached, ShortWork, PlanLength, TooManyPlans, Undecided, Wrong, TooManyLines, ShortBuffer, PartialLine, LineKind, LineFacts, LineValue, LinePlace, LineClaim, ListEnds, OtherVersion, MergedFacts, MergedActions, MergedFormula, MergedBytes, MergeRoom}
use Rattle.answers.specs.declared.rows.Unit.{Unit as PlaceUnit}
use Rattle.answers.specs.declared.rows.Unit.TheVariants.{Nothing, Byte, Line, End}
use Rattle.answers.specs.declared.rows.FaultRow.{FaultRow}
use Rattle.answers.specs.declared.status.Status.{Status}
use Rattle.answers.specs.declared.status.Status.TheVariants as status

-- what a fault is of, what its place counts, what is wrong, and the status that the program exits with
pub record Row : Type 0 where
  pub subject : List ℕ
  pub unit : PlaceUnit
  pub words : List ℕ
  pub status : Status

-- at a byte a block is malformed
abbrev pub malformed : List ℕ → List ℕ → Row
malformed subject words = record { subject = subject; unit = Byte; words = words; status = status.Malformed }

-- what was asked for, or what came of it, has no place
abbrev pub placeless : List ℕ → List ℕ → Status → Row
placeless subject words s = record { subject = subject; unit = Nothing; words = words; status = s }

-- a list does not hold at a line, or at the end of its lines
abbrev pub untrue : PlaceUnit → List ℕ → Row
untrue unit words = record { subject = codes "list"; unit = unit; words = words; status = status.No }

abbrev pub block_name : Block → List ℕ
block_name block.Problem = codes "problem"
block_name block.Plan = codes "plan"
block_name block.List = codes "list"

abbrev pub header_words : HeaderFault → List ℕ
header_words TooLong = codes "it is longer than such a block may be"
header_words TooShort = codes "it has no whole header"
header_words Version = codes "it is of no known version"
header_words Length = codes "its header states another length"

-- rows: what is told of each fault
unfoldable pub fault_row : Fault → Row
fault_row (Header b f) = malformed (block_name b) (header_words f)
fault_row BlockEnds = malformed (codes "problem") (codes "it ends too early")
fault_row FactCount = malformed (codes "problem") (codes "it has too few or too many facts")
fault_row ActionCount = malformed (codes "problem") (codes "it has too many actions")
fault_row FormulaLength = malformed (codes "problem") (codes "a formula is empty or too long")
fault_row Member = malformed (codes "problem") (codes "no literal of a declared fact, and no group that may stand here")
fault_row Depth = malformed (codes "problem") (codes "groups stand too deep in one another")
fault_row FormulaEnds = malformed (codes "problem") (codes "a formula ends too early")
fault_row FormulaLeft = malformed (codes "problem") (codes "a formula has bytes left over")
fault_row EffectCount = malformed (codes "problem") (codes "an action has too many effects")
fault_row EffectLiteral = malformed (codes "problem") (codes "an effect is of no declared fact")
fault_row EffectOrder = malformed (codes "problem") (codes "an effect is out of order")
fault_row BytesLeft = malformed (codes "problem") (codes "bytes follow the last action")
fault_row StepAction = malformed (codes "plan") (codes "a step names no action")
fault_row StateNumber = placeless (codes "state") (codes "it sets a fact that is not declared") status.Usage
fault_row RunNotReached = placeless (codes "run") (codes "it does not reach the goal") status.No
fault_row ShortWork = placeless (codes "run") (codes "there is no room for its states") status.Malformed
fault_row PlanLength = placeless (codes "search") (codes "plans of so many steps are not searched") status.Usage
fault_row TooManyPlans = placeless (codes "search") (codes "there are too many plans to try") status.Usage
fault_row Undecided = placeless (codes "list") (codes "the grant does not suffice to judge the plan") status.Undecided
fault_row Wrong = placeless (codes "list") (codes "the plan is wrong") status.No
fault_row TooManyLines = placeless (codes "list") (codes "it would have more lines than a list may have") status.Unwritten
fault_row ShortBuffer = placeless (codes "list") (codes "there is no room for it") status.Unwritten
fault_row PartialLine = malformed (codes "list") (codes "its last line is not whole")
fault_row LineKind = untrue Line (codes "it is of no known kind")
fault_row LineFacts = untrue Line (codes "it fixes facts that are not declared")
fault_row LineValue = untrue Line (codes "it sets a fact that it does not fix")
fault_row LinePlace = untrue Line (codes "it does not begin where the line before ended")
fault_row LineClaim = untrue Line (codes "its claim is not so")
fault_row ListEnds = untrue End (codes "the lines do not cover every state")
fault_row OtherVersion = malformed (codes "list") (codes "its version is not that of the problem")
fault_row MergedFacts = placeless (codes "merged problem") (codes "it has more facts than a problem may have") status.Malformed
fault_row MergedActions = placeless (codes "merged problem") (codes "it has more actions than a problem may have") status.Malformed
fault_row MergedFormula = placeless (codes "merged problem") (codes "it has a formula that no problem may have") status.Malformed
fault_row MergedBytes = placeless (codes "merged problem") (codes "it has more bytes than a problem may have") status.Malformed
fault_row MergeRoom = placeless (codes "merged problem") (codes "there is no room for it, or for its table") status.Unwritten

-- what the code tells of a fault
abbrev pub row : FaultRow → Row
row r = record { subject = r.subject.now; unit = r.unit; words = r.words.now; status = r.status }
