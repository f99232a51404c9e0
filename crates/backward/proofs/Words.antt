-- The words of the logic, of its libraries and of the definitions that the laws speak in, passed on from one place. Declares nothing.
pub use Rattle.std.proofs.Common.{◌≡◌, refl, sym, ap, ap₂, ◌∙◌, Bool, false, cond, not, ◌&&◌, ◌||◌, List, ℕ, zero, suc, ◌≤◌, ◌<◌, arith, length, get_or, eqb, eq-eqb, eqb-true, true, [], ◌∷◌, subst, inl, inr, ◌+◌, ◌++◌, map, append-nil, add-one, take, drop, length-take, length-drop, length-append, drop_of_length-le, Option, Some, None, is_some, min, take-suc, take_at, ◌*◌, ◌/◌, ◌%◌, ne_eqb, set, length-set, get_or-set_same, get_or-set_other, ext_get_or, leb, ltb, ◌-◌, ◌^◌, mod-eq_of_lt, pow-suc, one-mul, bit_and, bit_or, bit_xor, pow-add, shr-shr, shr_lt, drop-cons, append_assoc, mul-le-mul_right, suc-mul, zero-mul, replicate, take-add, take_all, drop-drop, mul_comm}
pub use lib.ListN.{get_or-eq_default, length-map, get_or-map}
pub use lib.Seq.{length-sets, sets-eq, drop-append-add}
pub use mathlib.Core.Bool.{false≢true}
pub use native.Mathlib.Decide.{dec_lt, ℕ_discrete, dec_le}
pub use native.Mathlib.Nat.{div-eq_of_lt, mul-div-le, min-le_left}
pub use Rattle.backward.specs.Changes.{NamesAsked, holds_now, asks, AddsEffect, IsChanges}
pub use Rattle.backward.specs.Facts.{has_fact, GivesUnion, GivesRest, GivesCommon, FirstTaken, HasFacts}
pub use Rattle.backward.specs.Kept.{KeepsRow, kept_of, KeepsRows}
pub use Rattle.backward.specs.Marks.{MattersBefore, IsMark, state_at, Marked, WithinAction, WithinTask, TracesBack, no_mark}
unfoldable pub use Rattle.backward.specs.Marks.{matter_before}
pub use Rattle.backward.specs.Rows.{Shows, Taken, Takes, is_reached, Stops, TellsReached, changed, Makes, TakesSteps}
pub use Rattle.backward.specs.Stretches.{ShowsRow, part, TakesPart, KeptIn, TracesStretches}
pub use Rattle.backward.specs.declared.changes.Changes.{Changes}
pub use Rattle.backward.specs.declared.facts.FactSet.{FactSet}
pub use Rattle.backward.specs.declared.matters.Mark.{Mark}
pub use Rattle.blocks.proofs.Tasks.{plan-length, task-facts, task-goal}
pub use Rattle.blocks.specs.Values.{problem, task}
pub use Rattle.cases.specs.Cases.{case_of}
pub use Rattle.cases.specs.Lanes.{value_in}
unfoldable pub use Rattle.cases.specs.Lanes.{case_in}
pub use Rattle.cases.specs.declared.cases.Cases.{Cases}
pub use Rattle.fields.proofs.FirstEffect.{effects-rise}
pub use Rattle.fields.specs.ActionBytes.{Rising}
pub use Rattle.fields.specs.Actions.{effects, action}
pub use Rattle.formula.specs.Literals.{member_literals, literals_left}
unfoldable pub use Rattle.formula.specs.Literals.{literals}
pub use Rattle.formula.specs.Views.{literal, formula}
pub use Rattle.model.proofs.Laws.Agreement.{yes-exact, read_known}
pub use Rattle.model.proofs.Laws.Planes.{ones, bit-ones, bit-zero, bit-small, bit-and, bit-or, bit-flip, literal-fact}
pub use Rattle.model.proofs.Laws.Relevance.{some_at, without-entry, step-length}
pub use Rattle.model.proofs.Laws.Stores.{sets-append, part-put}
pub use Rattle.model.proofs.Laws.Tabulate.{length-tabulate, get_d_tabulate, tabulate-last, tabulate-below, getD-tabulate-past}
pub use Rattle.model.proofs.Laws.Tracing.{OfSize, rows-size, rows-append, states-size, states-count}
pub use Rattle.model.proofs.Laws.Truth.{same_truth, and-true, or_assoc, or-none, or-first, or-second, or_cases, and_both, and_one, and_none}
pub use Rattle.model.specs.Action.{Action, Effect, same_literal, condition_of, applicable, tabulate, clears}
unfoldable pub use Rattle.model.specs.Action.{condition_in, next, step}
pub use Rattle.model.specs.Case.{flag, Task}
unfoldable pub use Rattle.model.specs.Case.{bit}
pub use Rattle.model.specs.Formula.{fact, denial, Literal, Formula, any, none, Formulas, lit, more, value_of}
unfoldable pub use Rattle.model.specs.Formula.{eval}
pub use Rattle.model.specs.FormulaBytes.{literal_byte, Group, conjunction, disjunction, grouped, literal_of, member_count}
pub use Rattle.model.specs.Kleene.{two, Kleene, is_yes, known, three, No}
pub use Rattle.model.specs.Limits.{max_facts}
unfoldable pub use Rattle.model.specs.Planes.{lane_bit}
unfoldable pub use Rattle.model.specs.ProblemBytes.{action_at}
pub use Rattle.model.specs.Relevance.{set_and_cleared, set_names, clear_names, rests_on, stretch, fact_of, member_names, number_of, padded, exclusion_names}
unfoldable pub use Rattle.model.specs.Relevance.{names, some, matters_before, has_entry, states, rows, relevant}
pub use Rattle.model.specs.Run.{at_end, reached, Outcome, Stop}
unfoldable pub use Rattle.model.specs.Run.{goes_on, run}
pub use Rattle.std.proofs.lemmas.Bool.Decides.{nat_tests}
pub use Rattle.std.proofs.lemmas.List.{map-set, take-append-drop, drop-replicate, get_or-drop, take-map, drop-map}
