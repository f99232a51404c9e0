use Rattle.model.specs.Operations.{task_of}
use Rattle.blocks.specs.Values.{task}
use Rattle.runs.proofs.States.{no-state-past, no-state-bits, state-small, is-state}
use Rattle.runs.proofs.state.state_cases.Goals as goal
use Rattle.runs.proofs.state.state_cases.Goals.{then-low_bits-state-via-then-low_bits-state, then-low_bits-state-via-else-low_bits-state+then-low_bits-ne0}

pub returns-then-low_bits-state-clause-state : goal.returns-then-low_bits-state-clause-state
unfolding task_of
returns-then-low_bits-state-clause-state c =
    let T = task c.args.task.now in
    elim c.then-low_bits-state.branch [
      | then-low_bits-state-via-then-low_bits-state w ↦ (no-state-past T _ _ c.low_bits.ensures w.if-low_bits-state.true, c.at.ensures)
      | then-low_bits-state-via-else-low_bits-state+then-low_bits-ne0 w ↦ (no-state-bits T _ _ c.low_bits.ensures _ w.low_bits-else-low_bits-state.ensures w.if-low_bits-ne0.true, c.at.ensures)
    ]

pub cases_of_state-requires : goal.cases_of_state-requires
unfolding task_of
cases_of_state-requires c = state-small (task c.args.task.now) _ _ c.low_bits.ensures c.if-low_bits-state.false

pub returns-clause-state : goal.returns-clause-state
unfolding task_of
returns-clause-state c =
    let T = task c.args.task.now in
    record {
      is = is-state T _ _ c.low_bits.ensures _ c.low_bits-else-low_bits-state.ensures c.if-low_bits-state.false c.if-low_bits-ne0.false;
      cases = c.cases_of_state.ensures.state;
    }
