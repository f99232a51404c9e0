use Rattle.std.proofs.Common.{◌≡◌, length, sym, ap, ◌∙◌, arith}
use Rattle.std.proofs.lemmas.List.{length-map}
use Rattle.make.specs.Views.{texts, fact_names}
use Rattle.make.proofs.Parsing.{wrong_at, passed, returned}
use Rattle.make.proofs.BlockSteps.{source_with, rest-no_start, rest-initial, rest-no_goal, rest-goal, rest-actions, rest-plan, rest-left, rest-long, rest-good, problem-block}
use Rattle.make.proofs.formulas.FactNames.blocks.Goals as goal

pub returns-in_err-expect_key : goal.returns-in_err-expect_key
returns-in_err-expect_key c =
    rw (returned c.from_residual.result c.from_residual.ensures.1) (passed _ _ _ _ _ _ _ (rest-no_start c.args.limits.now (fact_names c.args.self.now) _ _ c.as_slice.ensures) c.in_err-expect_key.ensures)

pub returns-in_err-initial : goal.returns-in_err-initial
returns-in_err-initial c =
    let start = c.in_ok-expect_key.ensures in
    rw (returned c.from_residual-in_err-initial.result c.from_residual-in_err-initial.ensures.1) (passed _ _ _ _ _ _ _ (rest-initial c.args.limits.now (fact_names c.args.self.now) _ _ c.as_slice.ensures _ _ start.read) c.in_err-initial.ensures)

pub returns-in_err-expect_key-2 : goal.returns-in_err-expect_key-2
returns-in_err-expect_key-2 c =
    let start = c.in_ok-expect_key.ensures in
    let initial = c.in_ok-initial.ensures in
    rw (returned c.from_residual-in_err-expect_key-2.result c.from_residual-in_err-expect_key-2.ensures.1) (passed _ _ _ _ _ _ _ (rest-no_goal c.args.limits.now (fact_names c.args.self.now) _ _ c.as_slice.ensures _ _ start.read _ _ initial.read _ c.as_slice-2.ensures) c.in_err-expect_key-2.ensures)

pub returns-in_err-goal : goal.returns-in_err-goal
returns-in_err-goal c =
    let start = c.in_ok-expect_key.ensures in
    let initial = c.in_ok-initial.ensures in
    let the_goal = c.in_ok-expect_key-2.ensures in
    rw (returned c.from_residual-in_err-goal.result c.from_residual-in_err-goal.ensures.1) (passed _ _ _ _ _ _ _ (rest-goal c.args.limits.now (fact_names c.args.self.now) _ _ c.as_slice.ensures _ _ start.read _ _ initial.read _ c.as_slice-2.ensures _ _ the_goal.read) c.in_err-goal.ensures)

pub returns-in_err-actions : goal.returns-in_err-actions
returns-in_err-actions c =
    let start = c.in_ok-expect_key.ensures in
    let initial = c.in_ok-initial.ensures in
    let the_goal = c.in_ok-expect_key-2.ensures in
    let wanted = c.in_ok-goal.ensures in
    rw (returned c.from_residual-in_err-actions.result c.from_residual-in_err-actions.ensures.1) (passed _ _ _ _ _ _ _ (rest-actions c.args.limits.now (fact_names c.args.self.now) _ _ c.as_slice.ensures _ _ start.read _ _ initial.read _ c.as_slice-2.ensures _ _ the_goal.read _ _ wanted.read) c.in_err-actions.ensures)

pub returns-in_err-plan : goal.returns-in_err-plan
returns-in_err-plan c =
    let start = c.in_ok-expect_key.ensures in
    let initial = c.in_ok-initial.ensures in
    let the_goal = c.in_ok-expect_key-2.ensures in
    let wanted = c.in_ok-goal.ensures in
    let acts = c.in_ok-actions.ensures in
    let names = ap texts c.deref.ensures.value ∙ acts.is.names in
    rw (returned c.from_residual-in_err-plan.result c.from_residual-in_err-plan.ensures.1) (passed _ _ _ _ _ _ _ (rest-plan c.args.limits.now (fact_names c.args.self.now) _ _ c.as_slice.ensures _ _ start.read _ _ initial.read _ c.as_slice-2.ensures _ _ the_goal.read _ _ wanted.read _ _ acts.read (texts c.deref.result.now) names) c.in_err-plan.ensures)

pub returns-then-not-is_empty : goal.returns-then-not-is_empty
returns-then-not-is_empty c =
    let start = c.in_ok-expect_key.ensures in
    let initial = c.in_ok-initial.ensures in
    let the_goal = c.in_ok-expect_key-2.ensures in
    let wanted = c.in_ok-goal.ensures in
    let acts = c.in_ok-actions.ensures in
    let names = ap texts c.deref.ensures.value ∙ acts.is.names in
    let planned = c.in_ok-plan.ensures in
    wrong_at _ _ _ _ _ _ _ (rest-left c.args.limits.now (fact_names c.args.self.now) _ _ c.as_slice.ensures _ _ start.read _ _ initial.read _ c.as_slice-2.ensures _ _ the_goal.read _ _ wanted.read _ _ acts.read (texts c.deref.result.now) names _ _ _ planned.read c.word-word.ensures.bytes (sym c.is_empty.ensures ∙ c.if-not-is_empty.true)) c.at.ensures c.word-word.ensures.left

pub returns-then-len-gt-MAX_BYTES : goal.returns-then-len-gt-MAX_BYTES
returns-then-len-gt-MAX_BYTES c =
    let start = c.in_ok-expect_key.ensures in
    let initial = c.in_ok-initial.ensures in
    let the_goal = c.in_ok-expect_key-2.ensures in
    let wanted = c.in_ok-goal.ensures in
    let acts = c.in_ok-actions.ensures in
    let names = ap texts c.deref.ensures.value ∙ acts.is.names in
    let planned = c.in_ok-plan.ensures in
    let facts : length c.args.self.now.names.now ≡ length (fact_names c.args.self.now) = sym (length-map c.args.self.now.names.now (λ s. s.now)) in
    let count : length c.in_ok-actions.actions.names.items ≡ length acts.value = sym (length-map c.in_ok-actions.actions.names.items (λ s. s.now)) ∙ (ap length acts.is.names ∙ length-map acts.value (λ a. a.name)) in
    let made = c.in_ok-problem.ensures ∙ problem-block c.args.limits.now _ _ _ acts.value _ _ _ _ _ facts count initial.is wanted.is acts.is.bytes in
    let size = ap length made in
    wrong_at _ _ _ _ _ _ _ (rest-long c.args.limits.now (fact_names c.args.self.now) _ _ c.as_slice.ensures _ _ start.read _ _ initial.read _ c.as_slice-2.ensures _ _ the_goal.read _ _ wanted.read _ _ acts.read (texts c.deref.result.now) names _ _ _ planned.read c.word-word.ensures.bytes (sym c.is_empty.ensures ∙ c.if-not-is_empty.false) (omega (arith, size, c.in_ok-problem.problem.ok.0))) c.at-then-len-gt-MAX_BYTES.ensures c.word-word.ensures.left

pub returns : goal.returns
returns c =
    let start = c.in_ok-expect_key.ensures in
    let initial = c.in_ok-initial.ensures in
    let the_goal = c.in_ok-expect_key-2.ensures in
    let wanted = c.in_ok-goal.ensures in
    let acts = c.in_ok-actions.ensures in
    let names = ap texts c.deref.ensures.value ∙ acts.is.names in
    let planned = c.in_ok-plan.ensures in
    let facts : length c.args.self.now.names.now ≡ length (fact_names c.args.self.now) = sym (length-map c.args.self.now.names.now (λ s. s.now)) in
    let count : length c.in_ok-actions.actions.names.items ≡ length acts.value = sym (length-map c.in_ok-actions.actions.names.items (λ s. s.now)) ∙ (ap length acts.is.names ∙ length-map acts.value (λ a. a.name)) in
    let made = c.in_ok-problem.ensures ∙ problem-block c.args.limits.now _ _ _ acts.value _ _ _ _ _ facts count initial.is wanted.is acts.is.bytes in
    let size = ap length made in
    record {
      value = source_with c.args.limits.now (fact_names c.args.self.now) initial.value wanted.value acts.value planned.value;
      read = rest-good c.args.limits.now (fact_names c.args.self.now) _ _ c.as_slice.ensures _ _ start.read _ _ initial.read _ c.as_slice-2.ensures _ _ the_goal.read _ _ wanted.read _ _ acts.read (texts c.deref.result.now) names _ _ _ planned.read c.word-word.ensures.bytes (sym c.is_empty.ensures ∙ c.if-not-is_empty.false) (omega (arith, size, c.in_ok-problem.problem.ok.0));
      is = record { problem = made; plan = planned.is };
    }
