-- The words of the logic and of its libraries that the laws speak in, passed on from one place. Declares nothing.
pub use Rattle.std.proofs.Common.{◌≡◌, refl, Bool, true, false, cond, List, ℕ, length, get_or, eqb, arith, sym, ap, ◌∙◌, ◌&&◌, ◌||◌, not, [], ◌∷◌, map, zero, suc, ◌<◌, suc-le-suc, subst, ◌↔◌, ◌++◌, append-nil, ◌+◌, ◌-◌, ◌^◌, ◌≤◌, ext_get_or, pow_pos, append_assoc, ◌*◌, ◌/◌, ◌%◌, zero-le, div-add-mod', mul-le-mul_right, lt_of_mul-lt-mul_right, mul_assoc, pow-suc, length-append, eqb-true, eq-eqb, pow-add, shr-shr, ◌⊎◌, inl, inr, take, length-take, length-drop, take_all, take-take, ltb-false, le-ltb, ltb, leb, ltb-true, leb-true, lt-ltb, le-leb, mul-div_cancel, suc-mul, zero-mul, mul_comm, drop, take_at, drop_at, min, max, mod-lt, set, length-set, get_or-set_same, get_or-set_other, bit_and, bit_or, bit_xor, ◌≢◌, subst₂, mod-eq_of_lt, add-mul, zero-add, add-one, drop-cons, replicate, add-zero, drop-drop, le_of_suc-le-suc, not-suc-le-zero}
pub use borrow.Author.Tests.{eqb-false, not-true, lt-leb}
pub use borrow.Rule.Slice.PartMut.{put_mid}
pub use lib.Arith.{mod-mul}
pub use lib.ListN.{get_or-map, length-map, get_or-eq_default, length-replicate, get_or-replicate}
pub use lib.Seq.{take-length}
pub use mathlib.Core.Bool.{false≢true}
pub use mathlib.Core.List.{Memᴰ}
pub use native.Mathlib.Decide.{ℕ_discrete, dec_lt, dec_le}
pub use native.Mathlib.Nat.{div-eq_of_lt-le, mul-mod_left, div-le_of_le-mul, zero-div, div-div-eq-div-mul, one-le-pow, mod-one}
pub use Rattle.model.specs.Action.{Action, tabulate, sets, clears, OrderFree, Effect}
unfoldable pub use Rattle.model.specs.Action.{every, exclusive, applicable, next, step, condition_in}
pub use Rattle.model.specs.Answer.{Answer, refused, answered}
pub use Rattle.model.specs.Belief.{Belief, Entails, only, ApplicableIn, Image, after, Applicable, Solution, initial_belief, IsPart, Blocks, OutcomeMeans, InConflict, FirstFalse, IsUnmet}
pub use Rattle.model.specs.Case.{Task, IsState, Right, flag}
unfoldable pub use Rattle.model.specs.Case.{bit, state_of, run_of, initially, case_of}
pub use Rattle.model.specs.CaseList.{claims}
unfoldable pub use Rattle.model.specs.CaseList.{ends, follow, first, refuse_at, fault}
pub use Rattle.model.specs.Cover.{CoversTo, FaultAt, CoveredBy, CoveredOnce, RunningEnd}
unfoldable pub use Rattle.model.specs.Cover.{cover_end}
pub use Rattle.model.specs.DeskText.{verdict_line}
unfoldable pub use Rattle.model.specs.DeskText.{verdict_rest}
pub use Rattle.model.specs.Formula.{fact, denial, Formula, Formulas, lit, all, any, none, more, Literal, value_of}
unfoldable pub use Rattle.model.specs.Formula.{eval, eval_all, eval_any}
pub use Rattle.model.specs.FormulaBytes.{literal_byte, Group, conjunction, disjunction, mark, Head, leaf, group, member_count}
unfoldable pub use Rattle.model.specs.FormulaBytes.{formula_bytes, member_bytes, is_literal, literal_of, group_head, head_from, head, members, whole, item, stated, formula, encode_formula}
pub use Rattle.model.specs.Guarantees.{AllInput, Guarantees, lines_in, Says, Verdicts, written_list, ClosesWithin, NotWritten, by_visits, by_verdict, by_lines, by_room, Certificates, NotRight, ComesTo, SearchSays, Searching, Relevance, LowestFailing}
pub use Rattle.model.specs.Kleene.{Kleene, No, Unknown, Yes, both, either, denied, is_yes, known, Logic, two, three}
pub use Rattle.model.specs.Limits.{version1, version2, limits_of, max_formula_bytes, max_depth, max_actions, max_steps, max_problem_bytes, max_length, max_plans, max_effects}
unfoldable pub use Rattle.model.specs.ListBytes.{encode_list, list_of, line_at, lines_from, of_the_problem, case_list, line_bytes, lines_bytes}
pub use Rattle.model.specs.Operations.{line_count, when_few, plans_in, Written, when_reached, traced_back, judge, write_list, read_both}
unfoldable pub use Rattle.model.specs.Operations.{is_state_number, run_read, judge_read, reached_read, relevant_read, list_bytes, lines_for, lines_read, written, write_read, follow_read, cover_read, read_plan, task_of, read_task, search_plans}
pub use Rattle.model.specs.Planes.{InLane, InLanes, Table}
unfoldable pub use Rattle.model.specs.Planes.{lane_bit}
pub use Rattle.model.specs.ProblemBytes.{Problem}
unfoldable pub use Rattle.model.specs.ProblemBytes.{problem, problem_of, plan, plan_of, encode_problem, encode_plan, effect, effects, effect_list, action, actions, ending, parts, body, steps, effects_bytes, action_bytes, actions_bytes}
pub use Rattle.model.specs.Read.{got, Reader, head_bytes, Read, big_endian}
unfoldable pub use Rattle.model.specs.Read.{block, and_then, ◌>>=◌, ◌>>◌, done, position, require, bytes_of, answer_of, of_version, counted, big_endian_from, byte, header, count}
pub use Rattle.model.specs.Relevance.{set_and_cleared, set_names, clear_names, rests_on, RestsOnRelevant, work_bytes, AgreeOn}
unfoldable pub use Rattle.model.specs.Relevance.{names, member_names, some, has_entry, matters_before, relevant, number_of, relevant_to, states, rows, run_rows}
pub use Rattle.model.specs.Run.{holds_in, at_member, at_fact, Outcome, reached, Stop, at_end, missed, blocked, Part}
unfoldable pub use Rattle.model.specs.Run.{unmet, lowest_false, part_of, goes_on, run, first_false}
pub use Rattle.model.specs.Search.{IsShort, LowerSteps, Earlier, Sorted, Enumerates, Search, first_right, none_right, undecided_at}
unfoldable pub use Rattle.model.specs.Search.{each_step, plans_of, plans_from, plans_up_to, plan_count, search, visits_of}
pub use Rattle.model.specs.Soundness.{KleeneSound}
pub use Rattle.model.specs.Theorems.{Theorems, TrialsHold}
pub use Rattle.model.specs.Trials.{P_no_start, P2_no_start, DeskGrant}
unfoldable pub use Rattle.model.specs.Trials.{reply}
pub use Rattle.model.specs.Walk.{Kind, empty, Look, closed, opened, Line, Walked, covered, failed, line, join, visits, Verdict, right, wrong, undecided, look_of, initial_at, run_at, found}
unfoldable pub use Rattle.model.specs.Walk.{walk_from, walk, look_at, walked, judged}
pub use Rattle.model.specs.WellFormed.{Sensible, Each, LineHolds, Joined, TaskOk, ReadOk, Bytes, Declared, FormulaOk, LineOk, ListOk, EffectsOk, ActionOk, ProblemOk, PlanOk}
unfoldable pub use Rattle.model.specs.WellFormed.{Formed, FormedAll}
pub use Rattle.model.specs.declared.Limits.{Limits}
