-- What is said of a text.
use Rattle.std.specs.Prelude.{List, ℕ, codes}
use Rattle.words.specs.declared.complaint.Complaint.{Complaint}
use Rattle.words.specs.declared.complaint.MakeError.{MakeError}
use Rattle.words.specs.declared.complaint.MakeError.TheVariants.{Text, OutOfMemory}
use Rattle.words.specs.declared.complaint.Complaint.TheVariants.{NoVersion, NoFact, TooManyFacts, NoName, NameTaken, NoStart, NoGoal, UnknownFact, SameKind, NoBracket, TooDeep, TooManyMembers, FormulaTooLong, EffectOrder, TooManyEffects, TooManyActions, UnknownAction, TooManySteps, WordLeft, TooLong}

abbrev pub complaint_words : Complaint → List ℕ
complaint_words NoVersion = codes "a problem begins with version 1 or version 2"
complaint_words NoFact = codes "no fact is declared"
complaint_words TooManyFacts = codes "there are more facts than a problem of this version has"
complaint_words NoName = codes "this is no name, or one of more than 255 bytes"
complaint_words NameTaken = codes "this name is taken"
complaint_words NoStart = codes "the start is not here"
complaint_words NoGoal = codes "the goal is not here"
complaint_words UnknownFact = codes "a fact of this name is not declared"
complaint_words SameKind = codes "this group stands in a group of its own kind"
complaint_words NoBracket = codes "a group's members stand in brackets"
complaint_words TooDeep = codes "more than 8 groups stand in one another"
complaint_words TooManyMembers = codes "a group has more than 255 members"
complaint_words FormulaTooLong = codes "a formula takes more than 1024 bytes"
complaint_words EffectOrder = codes "effects stand in the order of their facts, those that set before those that clear"
complaint_words TooManyEffects = codes "there are more effects than an action of this version has"
complaint_words TooManyActions = codes "there are more than 64 actions"
complaint_words UnknownAction = codes "an action of this name is not declared"
complaint_words TooManySteps = codes "a plan has more than 256 steps"
complaint_words WordLeft = codes "the text has to end here"
complaint_words TooLong = codes "the problem takes more than 32768 bytes"

abbrev pub error_words : MakeError → List ℕ
error_words (Text c q) = complaint_words c
error_words OutOfMemory = codes "out of memory"
