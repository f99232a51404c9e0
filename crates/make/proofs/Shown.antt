-- What is shown of a block is read again. Assumes nothing.
use Rattle.std.proofs.Common.{refl, sym, ◌∙◌, ap, List, [], append-nil, ℕ, length, None, Some}
use Rattle.model.specs.Limits.{limits_of}
use Rattle.model.proofs.Guarantees.{guarantees-of}
use Rattle.words.specs.Words.{word, past_blanks, word_length, run_length}
use Rattle.names.specs.Names.{Names}
use Rattle.names.specs.ProblemText.{problem_text, plan_text}
use Rattle.make.specs.SourceText.{source, plan}
use Rattle.make.proofs.Said.{ShownIsSaid, ShownPlanIsSaid}
use Rattle.make.proofs.FormulaRead.{fact_names}
use Rattle.make.proofs.ActionsRead.{names_of_actions, EndsActions}
use Rattle.make.proofs.StepsRead.{plan-read, no-plan}
use Rattle.make.proofs.ProblemRead.{Says, version-read, source-read}

-- where nothing follows, the last action ends
nothing-ends : (names : List (List ℕ)) → EndsActions names []
unfolding word past_blanks word_length
nothing-ends names =
    record { part = record { no_condition = refl; no_needs = refl; no_verb = refl }; no_action = refl }

-- and so where a plan follows
plan-ends : (N : Names) (names : List (List ℕ)) (bs : List ℕ) → EndsActions names (plan_text N bs)
unfolding plan_text word past_blanks word_length run_length
plan-ends N names bs =
    record { part = record { no_condition = refl; no_needs = refl; no_verb = refl }; no_action = refl }

-- a problem's text says the problem, and its block is the block
pub shown-is-said : ShownIsSaid
shown-is-said N block p bytes e names =
    let F = limits_of block in
    let (ok, same) = (guarantees-of block).all_input.problem_sound block bytes p e in
    let none : Says N F p ok names None [] = record { ends = nothing-ends (fact_names N p.facts); plan = no-plan (names_of_actions N (length p.actions)) } in
    let made = source-read N F p ok names (version-read block) None [] none in
    (ap source (sym (append-nil (problem_text N F p))) ∙ made, sym same)

-- and so with a plan's text after it
pub shown-plan-is-said : ShownPlanIsSaid
shown-plan-is-said N block plan p steps bytes plan-bytes e e' names =
    let F = limits_of block in
    let sound = (guarantees-of block).all_input in
    let (ok, same) = sound.problem_sound block bytes p e in
    let (fits, same-plan) = sound.plan_sound plan plan-bytes (length p.actions) steps e' in
    let some : Says N F p ok names (Some steps) (plan_text N steps) = record { ends = plan-ends N (fact_names N p.facts) steps; plan = plan-read N (length p.actions) names.actions steps fits } in
    let made = source-read N F p ok names (version-read block) (Some steps) (plan_text N steps) some in
    (made, sym same-plan)
