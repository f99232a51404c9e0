-- The numbers of the faults, by which callers know them.
use Rattle.std.specs.Prelude.{ℕ, ◌+◌}
use Rattle.model.specs.declared.fault.Block.{Block}
use Rattle.model.specs.declared.fault.Block.TheVariants as block
use Rattle.model.specs.declared.fault.HeaderFault.{HeaderFault}
use Rattle.model.specs.declared.fault.HeaderFault.TheVariants.{TooLong, TooShort, Version, Length}
use Rattle.model.specs.declared.fault.Fault.{Fault}
use Rattle.model.specs.declared.Refusal.{Refusal}
use Rattle.model.specs.declared.fault.Fault.TheVariants.{Header, BlockEnds, FactCount, ActionCount, FormulaLength, Member, Depth, FormulaEnds, FormulaLeft, EffectCount, EffectLiteral, EffectOrder, BytesLeft, StepAction, StateNumber, RunNotReached, ShortWork, PlanLength, TooManyPlans, Undecided, Wrong, TooManyLines, ShortBuffer, PartialLine, LineKind, LineFacts, LineValue, LinePlace, LineClaim, ListEnds, OtherVersion, MergedFacts, MergedActions, MergedFormula, MergedBytes, MergeRoom}

abbrev pub block_number : Block → ℕ
block_number block.Problem = 10
block_number block.Plan = 30
block_number block.List = 60

abbrev pub header_number : HeaderFault → ℕ
header_number TooLong = 0
header_number TooShort = 1
header_number Version = 2
header_number Length = 3

-- refusal numbers: each fault by the number that callers see
abbrev pub fault_number : Fault → ℕ
fault_number (Header b f) = block_number b + header_number f
fault_number BlockEnds = 14
fault_number FactCount = 15
fault_number ActionCount = 16
fault_number FormulaLength = 17
fault_number Member = 18
fault_number Depth = 19
fault_number FormulaEnds = 20
fault_number FormulaLeft = 21
fault_number EffectCount = 22
fault_number EffectLiteral = 23
fault_number EffectOrder = 24
fault_number BytesLeft = 25
fault_number StepAction = 34
fault_number StateNumber = 40
fault_number RunNotReached = 41
fault_number ShortWork = 42
fault_number PlanLength = 43
fault_number TooManyPlans = 44
fault_number Undecided = 50
fault_number Wrong = 51
fault_number TooManyLines = 52
fault_number ShortBuffer = 53
fault_number PartialLine = 64
fault_number LineKind = 65
fault_number LineFacts = 66
fault_number LineValue = 67
fault_number LinePlace = 68
fault_number LineClaim = 69
fault_number ListEnds = 70
fault_number OtherVersion = 71
fault_number MergedFacts = 82
fault_number MergedActions = 83
fault_number MergedFormula = 84
fault_number MergedBytes = 85
fault_number MergeRoom = 86

-- the refusal of a fault at a place
abbrev pub refusal_at : Fault → ℕ → Refusal
refusal_at f q = record { place = q; fault = f }
