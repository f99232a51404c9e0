-- An answer of the code is known by what it says: each meaning has an inverse. Assumes nothing.
use Rattle.std.proofs.Common.{◌≡◌, refl, sym, ap, ◌∙◌, List, [], ◌∷◌, ◌++◌, ℕ, ◌-◌, get_or, replicate, Result, Ok, Err}
use Rattle.model.specs.Answer.{Answer, refused, answered}
use Rattle.model.specs.Answers.{part, outcome, verdict, search_end, result_answer}
use Rattle.model.specs.Faults.{fault_number}
use Rattle.model.specs.Run as Run
use Rattle.model.specs.Walk as Walk
use Rattle.model.specs.Search as Search
use Rattle.model.specs.declared.Refusal.{Refusal}
use Rattle.model.specs.declared.Part.{Part}
use Rattle.model.specs.declared.Part.TheVariants as place
use Rattle.model.specs.declared.Outcome.{Outcome}
use Rattle.model.specs.declared.Outcome.TheVariants.{Reached, Missed, Blocked}
use Rattle.model.specs.declared.Verdict.{Verdict}
use Rattle.model.specs.declared.Verdict.TheVariants as said
use Rattle.model.specs.declared.Search as Declared
use Rattle.model.specs.declared.Search.TheVariants as found
use Rattle.model.specs.declared.fault.Block.TheVariants.{Problem, Plan, List as ListBlock}
use Rattle.model.specs.declared.fault.HeaderFault.TheVariants.{TooLong, TooShort, Version, Length}
use Rattle.model.specs.declared.fault.Fault.{Fault}
use Rattle.model.specs.declared.fault.Fault.TheVariants.{Header, BlockEnds, FactCount, ActionCount, FormulaLength, Member, Depth, FormulaEnds, FormulaLeft, EffectCount, EffectLiteral, EffectOrder, BytesLeft, StepAction, StateNumber, RunNotReached, ShortWork, PlanLength, TooManyPlans, Undecided, Wrong, TooManyLines, ShortBuffer, PartialLine, LineKind, LineFacts, LineValue, LinePlace, LineClaim, ListEnds, OtherVersion, MergedFacts, MergedActions, MergedFormula, MergedBytes, MergeRoom}

-- the faults in the order of their numbers, from 10 on; between blocks and operations some numbers are no fault's
abbrev gap : ℕ → List Fault
gap n = replicate n BlockEnds

abbrev faults : List Fault
faults =
    (Header Problem TooLong ∷ Header Problem TooShort ∷ Header Problem Version ∷ Header Problem Length ∷ BlockEnds ∷ FactCount ∷ ActionCount ∷ FormulaLength ∷ Member ∷
    Depth ∷ FormulaEnds ∷ FormulaLeft ∷ EffectCount ∷ EffectLiteral ∷ EffectOrder ∷ BytesLeft ∷ gap 4) ++
    ((Header Plan TooLong ∷ Header Plan TooShort ∷ Header Plan Version ∷ Header Plan Length ∷ StepAction ∷ gap 5) ++
    ((StateNumber ∷ RunNotReached ∷ ShortWork ∷ PlanLength ∷ TooManyPlans ∷ gap 5) ++
    ((Undecided ∷ Wrong ∷ TooManyLines ∷ ShortBuffer ∷ gap 6) ++
    ((Header ListBlock TooLong ∷ Header ListBlock TooShort ∷ Header ListBlock Version ∷ Header ListBlock Length ∷ PartialLine ∷ LineKind ∷ LineFacts ∷ LineValue ∷ LinePlace ∷
    LineClaim ∷ ListEnds ∷ OtherVersion ∷ gap 10) ++
    (MergedFacts ∷ MergedActions ∷ MergedFormula ∷ MergedBytes ∷ MergeRoom ∷ [])))))

abbrev pub fault_of : ℕ → Fault
fault_of n = get_or faults (n - 10) BlockEnds

pub fault-back : (f : Fault) → fault_of (fault_number f) ≡ f
fault-back (Header Problem TooLong) = refl
fault-back (Header Problem TooShort) = refl
fault-back (Header Problem Version) = refl
fault-back (Header Problem Length) = refl
fault-back (Header Plan TooLong) = refl
fault-back (Header Plan TooShort) = refl
fault-back (Header Plan Version) = refl
fault-back (Header Plan Length) = refl
fault-back (Header ListBlock TooLong) = refl
fault-back (Header ListBlock TooShort) = refl
fault-back (Header ListBlock Version) = refl
fault-back (Header ListBlock Length) = refl
fault-back BlockEnds = refl
fault-back FactCount = refl
fault-back ActionCount = refl
fault-back FormulaLength = refl
fault-back Member = refl
fault-back Depth = refl
fault-back FormulaEnds = refl
fault-back FormulaLeft = refl
fault-back EffectCount = refl
fault-back EffectLiteral = refl
fault-back EffectOrder = refl
fault-back BytesLeft = refl
fault-back StepAction = refl
fault-back StateNumber = refl
fault-back RunNotReached = refl
fault-back ShortWork = refl
fault-back PlanLength = refl
fault-back TooManyPlans = refl
fault-back Undecided = refl
fault-back Wrong = refl
fault-back TooManyLines = refl
fault-back ShortBuffer = refl
fault-back PartialLine = refl
fault-back LineKind = refl
fault-back LineFacts = refl
fault-back LineValue = refl
fault-back LinePlace = refl
fault-back LineClaim = refl
fault-back ListEnds = refl
fault-back OtherVersion = refl
fault-back MergedFacts = refl
fault-back MergedActions = refl
fault-back MergedFormula = refl
fault-back MergedBytes = refl
fault-back MergeRoom = refl

module _ {A B : Type 0} (meaning : A → B) (back : B → A) (inverse : (a : A) → back (meaning a) ≡ a) where
  abbrev result_of : Answer B → Result A Refusal
  result_of (answered b) = Ok (back b)
  result_of (refused n q) = Err (record { place = q; fault = fault_of n })

  result-back : (r : Result A Refusal) → result_of (result_answer meaning r) ≡ r
  result-back (Ok a) = ap Ok (inverse a)
  result-back (Err r) = ap (λ (f : Fault). Err (record { place = r.place; fault = f })) (fault-back r.fault)

  pub same-result : (x y : Result A Refusal) → result_answer meaning x ≡ result_answer meaning y → x ≡ y
  same-result x y e = sym (result-back x) ∙ ap result_of e ∙ result-back y

-- a number, or what else stands for itself
pub same-plain : {A : Type 0} (x y : Result A Refusal) → result_answer (λ (a : A). a) x ≡ result_answer (λ (a : A). a) y → x ≡ y
same-plain = same-result (λ a. a) (λ a. a) (λ a. refl)

abbrev part_of : Run.Part → Part
part_of (Run.at_member m) = place.Member m
part_of (Run.at_fact f) = place.Fact f

part-back : (p : Part) → part_of (part p) ≡ p
part-back (place.Member m) = refl
part-back (place.Fact f) = refl

abbrev outcome_of : Run.Outcome → Outcome
outcome_of Run.reached = Reached
outcome_of Run.missed = Missed
outcome_of (Run.blocked s) = Blocked (record { step = s.step; part = part_of s.part })

outcome-back : (o : Outcome) → outcome_of (outcome o) ≡ o
outcome-back Reached = refl
outcome-back Missed = refl
outcome-back (Blocked s) = ap (λ (p : Part). Blocked (record { step = s.step; part = p })) (part-back s.part)

abbrev verdict_of : Walk.Verdict ℕ → Verdict
verdict_of (Walk.right ls a) = said.Right ls a
verdict_of (Walk.wrong s o a) = said.Wrong s (outcome_of o) a
verdict_of (Walk.undecided a) = said.Undecided a

verdict-back : (v : Verdict) → verdict_of (verdict v) ≡ v
verdict-back (said.Right ls a) = refl
verdict-back (said.Wrong s o a) = ap (λ (p : Outcome). said.Wrong s p a) (outcome-back o)
verdict-back (said.Undecided a) = refl

pub same-judged : (x y : Result Verdict Refusal) → result_answer verdict x ≡ result_answer verdict y → x ≡ y
same-judged = same-result verdict verdict_of verdict-back

abbrev search_of : Search.Search → Declared.Search
search_of (Search.first_right p a) = found.Found p a
search_of (Search.none_right a) = found.NoneRight a
search_of (Search.undecided_at p a) = found.Undecided p a

search-back : (s : Declared.Search) → search_of (search_end s) ≡ s
search-back (found.Found p a) = refl
search-back (found.NoneRight a) = refl
search-back (found.Undecided p a) = refl

pub same-searched : (x y : Result Declared.Search Refusal) → result_answer search_end x ≡ result_answer search_end y → x ≡ y
same-searched = same-result search_end search_of search-back
