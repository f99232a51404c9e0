-- a member is a literal or a group of the other kind: each is an item, and the first of what is left to read
use Rattle.std.proofs.Common.{◌+◌, refl, ◌∙◌, arith, Ok, Err}
use Rattle.model.specs.FormulaBytes.{conjunction, disjunction}
use Rattle.formula.proofs.Items.{item-refused, item-literal, item-in, row_ends, row-goes, row-stops}
use Rattle.formula.proofs.Plain.{literal-row}
use Rattle.formula.proofs.Readers.{returned}
use Rattle.formula.proofs.read.Stated.+groups.Goals as goal
use Rattle.formula.proofs.read.Stated.+groups.Goals.{read_all-then-has_literal, read_all-else-has_literal+in_ok-head+then-has_only_leaves, read_all-else-has_literal+in_ok-head+else-has_only_leaves+in_ok-next, read_any-then-has_literal, read_any-else-has_literal+in_ok-head+then-has_only_leaves, read_any-else-has_literal+in_ok-head+else-has_only_leaves+in_ok-next}

pub read_all-returns-in_err-head : goal.read_all-returns-in_err-head
read_all-returns-in_err-head t c =
    let h = item-refused _ _ _ _ _ _ _ c.in_err-head.ensures in
    rw (returned c.from_residual.result c.from_residual.ensures.1) (row-stops _ _ _ _ _ _ _ _ _ c.loop-test.true c.loop.invariant (Err c.in_err-head.field-0.0) h _ refl)

pub read_all-returns-in_err-next : goal.read_all-returns-in_err-next
read_all-returns-in_err-next t c =
    let h = c.read_any.ensures ∙ item-in _ _ _ conjunction _ _ _ c.in_ok-head.ensures in
    rw (returned c.from_residual-in_err-next.result c.from_residual-in_err-next.ensures.1) (row-stops _ _ _ _ _ _ _ _ _ c.loop-test.true c.loop.invariant _ h _ c.in_err-next.was)

pub read_all-loop-preserved : goal.read_all-loop-preserved
read_all-loop-preserved t c = elim c.if-has_literal.branch [
  | read_all-then-has_literal w ↦
      let h = item-literal _ _ _ _ _ _ w.if-has_literal.ensures in
      rw w.next-is (row-goes _ _ _ _ _ _ _ _ _ c.loop-test.true c.loop.invariant (Ok (c.loop.next + 1)) h _ refl)
  | read_all-else-has_literal+in_ok-head+then-has_only_leaves w ↦
      let (inside, literals) = w.has_only_leaves.ensures w.if-has_only_leaves.true in
      let h = literal-row _ _ _ _ _ _ _ inside literals ∙ item-in _ _ _ conjunction _ _ _ w.in_ok-head.ensures in
      rw w.next-is (row-goes _ _ _ _ _ _ _ _ _ c.loop-test.true c.loop.invariant (Ok (c.loop.next + 2 + w.in_ok-head.head.count)) h _ refl)
  | read_all-else-has_literal+in_ok-head+else-has_only_leaves+in_ok-next w ↦
      let h = w.read_any.ensures ∙ item-in _ _ _ conjunction _ _ _ w.in_ok-head.ensures in
      rw w.next-is (row-goes _ _ _ _ _ _ _ _ _ c.loop-test.true c.loop.invariant _ h _ w.in_ok-next.was)
]

pub read_all-returns : goal.read_all-returns
read_all-returns t c = row_ends _ _ _ _ _ _ _ (omega arith) ∙ c.loop.invariant

pub read_any-returns-in_err-head : goal.read_any-returns-in_err-head
read_any-returns-in_err-head t c =
    let h = item-refused _ _ _ _ _ _ _ c.in_err-head.ensures in
    rw (returned c.from_residual.result c.from_residual.ensures.1) (row-stops _ _ _ _ _ _ _ _ _ c.loop-test.true c.loop.invariant (Err c.in_err-head.field-0.0) h _ refl)

pub read_any-returns-in_err-next : goal.read_any-returns-in_err-next
read_any-returns-in_err-next t c =
    let h = c.read_all.ensures ∙ item-in _ _ _ disjunction _ _ _ c.in_ok-head.ensures in
    rw (returned c.from_residual-in_err-next.result c.from_residual-in_err-next.ensures.1) (row-stops _ _ _ _ _ _ _ _ _ c.loop-test.true c.loop.invariant _ h _ c.in_err-next.was)

pub read_any-loop-preserved : goal.read_any-loop-preserved
read_any-loop-preserved t c = elim c.if-has_literal.branch [
  | read_any-then-has_literal w ↦
      let h = item-literal _ _ _ _ _ _ w.if-has_literal.ensures in
      rw w.next-is (row-goes _ _ _ _ _ _ _ _ _ c.loop-test.true c.loop.invariant (Ok (c.loop.next + 1)) h _ refl)
  | read_any-else-has_literal+in_ok-head+then-has_only_leaves w ↦
      let (inside, literals) = w.has_only_leaves.ensures w.if-has_only_leaves.true in
      let h = literal-row _ _ _ _ _ _ _ inside literals ∙ item-in _ _ _ disjunction _ _ _ w.in_ok-head.ensures in
      rw w.next-is (row-goes _ _ _ _ _ _ _ _ _ c.loop-test.true c.loop.invariant (Ok (c.loop.next + 2 + w.in_ok-head.head.count)) h _ refl)
  | read_any-else-has_literal+in_ok-head+else-has_only_leaves+in_ok-next w ↦
      let h = w.read_all.ensures ∙ item-in _ _ _ disjunction _ _ _ w.in_ok-head.ensures in
      rw w.next-is (row-goes _ _ _ _ _ _ _ _ _ c.loop-test.true c.loop.invariant _ h _ w.in_ok-next.was)
]

pub read_any-returns : goal.read_any-returns
read_any-returns t c = row_ends _ _ _ _ _ _ _ (omega arith) ∙ c.loop.invariant
