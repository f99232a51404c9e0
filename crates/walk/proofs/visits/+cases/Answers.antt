-- The loop through a block's lanes, a lane that does not split there, and a block below.
use Rattle.std.proofs.Common.{◌∙◌, sym, refl, arith}
use Rattle.std.proofs.lemmas.Result.{err_from_is_err_and}
use Rattle.walk.proofs.Lanes.{some-level, lane-some, lane-inside, level-within, lane-small}
use Rattle.walk.proofs.Walking.{lane_closes, lane_fails, going-begins, going-small, going-splits, going-out, going-stops, going-on, going-done, closed-fewer, edge-k, edge-begins, edge-numbers, below-walks, own-fits, here-fits, going-down, coming-back, stands-below, stands-again, below-looked, not-split, does-split, few-facts, edge-level, at-level}
use Rattle.walk.proofs.visits.+cases.Goals as goal

-- ---- walk_block

pub walk_block-lanes-init : goal.walk_block-lanes-init
walk_block-lanes-init g t c = (going-begins _ _ _ _ (g.met.L.Lines.none _ _), c.requires)

pub walk_block-splits-requires : goal.walk_block-splits-requires
walk_block-splits-requires g t c = going-small _ _ _ _ _ _ _ _ c.lanes.invariant.0

pub walk_block-returns-then-left-eq0 : goal.walk_block-returns-then-left-eq0
walk_block-returns-then-left-eq0 g t c =
    let (G, A) = c.lanes.invariant in
    record { stands = A; walks = going-out _ _ _ _ _ _ _ _ G c.if-left-eq0.true }

pub walk_block-lanes-preserved-then-splits : goal.walk_block-lanes-preserved-then-splits
walk_block-lanes-preserved-then-splits g t c =
    let (G, A) = c.lanes.invariant in
    let p = does-split _ c.splits.ensures c.if-splits.true in
    (going-splits _ _ _ _ _ _ _ _ G p.0 p.1 (omega arith), A)

pub walk_block-walk_lane-requires : goal.walk_block-walk_lane-requires
walk_block-walk_lane-requires g t c κs within =
    let (G, A) = c.lanes.invariant in (
      omega arith,
      (
        within,
        (lane-some _ _ G.on, (lane-inside _ _ _ G.on G.within, (not-split _ _ _ c.splits.ensures c.if-splits.false, (omega arith, A)))),
      ),
    )

pub walk_block-returns-in_err-closed : goal.walk_block-returns-in_err-closed
walk_block-returns-in_err-closed g t c =
    let p = err_from_is_err_and c.from_residual.result c.from_residual.ensures.1 in
    let (G, A) = c.lanes.invariant in
    let E = c.in_err-closed.ensures in
    record {
      stands = E.stands;
      walks = rw (p.1, p.2) (going-stops _ _ _ _ _ _ _ _ G (g.met.L.Lines.more _ c.args.block.now.task.now.problem.now.sensible) _ _ (E.walks G.level G.on));
    }

pub walk_block-lane_after-lane-requires : goal.walk_block-lane_after-lane-requires
walk_block-lane_after-lane-requires g t c = going-small _ _ _ _ _ _ _ _ c.lanes.invariant.0

pub walk_block-returns-then-lane-eq1 : goal.walk_block-returns-then-lane-eq1
walk_block-returns-then-lane-eq1 g t c =
    let (G, A) = c.lanes.invariant in
    let E = c.in_ok-closed.ensures in
    record {
      stands = E.stands;
      walks = going-done _ _ _ _ _ _ _ _ G (g.met.L.Lines.more _ c.args.block.now.task.now.problem.now.sensible) _ _ (E.walks G.level G.on) _ c.lane_after-lane.ensures c.if-lane-eq1.true;
    }

pub walk_block-lanes-smaller : goal.walk_block-lanes-smaller
walk_block-lanes-smaller g t c =
    let (G, A) = c.lanes.invariant in
    closed-fewer _ _ _ _ _ _ _ _ G (g.met.L.Lines.more _ c.args.block.now.task.now.problem.now.sensible) _ _ (c.in_ok-closed.ensures.walks G.level G.on)

pub walk_block-lanes-preserved : goal.walk_block-lanes-preserved
walk_block-lanes-preserved g t c =
    let (G, A) = c.lanes.invariant in
    let E = c.in_ok-closed.ensures in (
      going-on _ _ _ _ _ _ _ _ G (g.met.L.Lines.more _ c.args.block.now.task.now.problem.now.sensible) _ _ (E.walks G.level G.on) _ c.lane_after-lane.ensures c.if-lane-eq1.false,
      E.stands,
    )

-- ---- walk_lane

pub walk_lane-kind-requires : goal.walk_lane-kind-requires
walk_lane-kind-requires g t c = omega (arith, lane-small _ _ c.args.block.now.few c.requires.inside)

pub walk_lane-line-requires : goal.walk_lane-line-requires
walk_lane-line-requires g t c =
    let l = some-level _ _ c.requires.some c.requires.inside in
    few-facts c.args.block.now l.0 _ (level-within _ l.0 _ l.1 c.requires.inside) _ (c.case.ensures l.0 l.1)

pub walk_lane-returns-in-Some : goal.walk_lane-returns-in-Some
walk_lane-returns-in-Some g t c =
    record {
      stands = c.requires.stands;
      walks =
          λ e o.
          lane_closes _ c.args.block.now e _ (level-within _ e _ o c.requires.inside) o _ _ c.in-Some.kind (rw c.in-Some.is at c.kind.ensures) (omega arith) _ (c.case.ensures e o) _
          (rw c.line.ensures at c.put.ensures);
    }

pub walk_lane-returns-then-block : goal.walk_lane-returns-then-block
walk_lane-returns-then-block g t c =
    let i = sym (rw c.in_default.is at c.kind.ensures) in
    record {
      stands = c.requires.stands;
      walks =
          λ e o.
          let within = level-within _ e _ o c.requires.inside in
          let s = edge-level _ e _ o within (c.requires.edge i) in
          lane_fails _ c.args.block.now e _ within o _ _ i (omega arith) (omega (arith, s, c.if-block.true)) (g.met.L.Lines.none _ _) _
          (c.case-then-block.ensures e o);
    }

pub walk_lane-returns : goal.walk_lane-returns
walk_lane-returns g t c =
    let i = sym (rw c.in_default.is at c.kind.ensures) in
    record {
      stands = c.walk_below.ensures.stands;
      walks =
          λ e o.
          let s = edge-level _ e _ o (level-within _ e _ o c.requires.inside) (c.requires.edge i) in
          at-level _ c.args.block.now _ e _ _ _ _ s c.walk_below.ensures.walks;
    }

-- ---- walk_below

pub walk_below-in_table-above-requires-clause-fits : goal.walk_below-in_table-above-requires-clause-fits
walk_below-in_table-above-requires-clause-fits g t c = own-fits c.args.block.now

pub walk_below-in_table-here-requires-clause-fits : goal.walk_below-in_table-here-requires-clause-fits
walk_below-in_table-here-requires-clause-fits g t c = here-fits c.args.block.now _ c.requires.edge _ (c.case-own.ensures _ c.requires.edge)

pub walk_below-go-requires-clause-common : goal.walk_below-go-requires-clause-common
walk_below-go-requires-clause-common g t c = going-down c.args.block.now _ c.requires.edge _ (c.case-own.ensures _ c.requires.edge) _ _ c.in_table-above.ensures.fixed c.in_table-above.ensures.raised c.in_table-above.ensures.same c.in_table-here.ensures.fixed c.in_table-here.ensures.raised c.in_table-here.ensures.same

pub walk_below-go-requires-2-clause-common : goal.walk_below-go-requires-2-clause-common
walk_below-go-requires-2-clause-common g t c = coming-back c.args.block.now _ c.requires.edge _ (c.case-own.ensures _ c.requires.edge) _ _ c.in_table-above.ensures.fixed c.in_table-above.ensures.raised c.in_table-above.ensures.same c.in_table-here.ensures.fixed c.in_table-here.ensures.raised c.in_table-here.ensures.same

pub walk_below-invariant_of-below : goal.walk_below-invariant_of-below
walk_below-invariant_of-below g t c =
    let k = edge-k c.args.block.now _ c.requires.edge _ (c.case-own.ensures _ c.requires.edge) in
    record {
      some = omega (arith, k, c.requires.some, c.min-levels.ensures);
      few = omega (arith, c.min-levels.ensures);
      inside = omega (arith, c.min-levels.ensures, k, c.requires.some);
      begins = edge-begins c.args.block.now _ c.requires.edge _ (c.case-own.ensures _ c.requires.edge);
      numbers = edge-numbers c.args.block.now _ c.requires.edge _ (c.case-own.ensures _ c.requires.edge);
      looked =
          below-looked c.args.block.now _ c.requires.edge _ (c.case-own.ensures _ c.requires.edge) _ _ c.in_table-above.ensures.fixed c.in_table-above.ensures.raised c.in_table-above.ensures.same c.in_table-here.ensures.fixed c.in_table-here.ensures.raised c.in_table-here.ensures.same c.go.new.self _ _ (stands-below c.args.block.now _ c.requires.edge _ (c.case-own.ensures _ c.requires.edge) _ _ c.in_table-above.ensures.fixed c.in_table-above.ensures.raised c.in_table-above.ensures.same c.in_table-here.ensures.fixed c.in_table-here.ensures.raised c.in_table-here.ensures.same c.args.tables.now c.go.new.self c.requires.stands c.go.ensures.facts c.go.ensures.stands) c.look-looks.ensures.looks;
    }

pub walk_below-walk_block-walked-requires : goal.walk_below-walk_block-walked-requires
walk_below-walk_block-walked-requires g t c κs within =
    let k = edge-k c.args.block.now _ c.requires.edge _ (c.case-own.ensures _ c.requires.edge) in
    let below = stands-below c.args.block.now _ c.requires.edge _ (c.case-own.ensures _ c.requires.edge) _ _ c.in_table-above.ensures.fixed c.in_table-above.ensures.raised c.in_table-above.ensures.same c.in_table-here.ensures.fixed c.in_table-here.ensures.raised c.in_table-here.ensures.same c.args.tables.now c.go.new.self c.requires.stands c.go.ensures.facts c.go.ensures.stands in (
      omega (arith, k, c.requires.some, c.args.block.now.some),
      (
        within,
        record {
          facts = rw c.look-looks.ensures.stands (c.go.ensures.facts ∙ c.requires.stands.facts);
          stands = rw c.look-looks.ensures.stands below;
        },
      ),
    )

pub walk_below-returns-clause-stands : goal.walk_below-returns-clause-stands
walk_below-returns-clause-stands g t c =
    let E = c.walk_block-walked.ensures.stands in
    stands-again c.args.block.now _ c.requires.edge _ (c.case-own.ensures _ c.requires.edge) _ _ c.in_table-above.ensures.fixed c.in_table-above.ensures.raised c.in_table-above.ensures.same c.in_table-here.ensures.fixed c.in_table-here.ensures.raised c.in_table-here.ensures.same c.walk_block-walked.new.tables c.go-2.new.self E.facts E.stands c.go-2.ensures.facts c.go-2.ensures.stands

pub walk_below-returns-clause-walks : goal.walk_below-returns-clause-walks
walk_below-returns-clause-walks g t c =
    below-walks c.args.block.now _ c.requires.edge _ (c.case-own.ensures _ c.requires.edge) _ c.args.block.now.task.now c.args.block.now.task.now.problem.now.facts c.case-own.result.k c.case-own.result.number refl refl refl refl _ _ _ _ c.walk_block-walked.ensures.walks
