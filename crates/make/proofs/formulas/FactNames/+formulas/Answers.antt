use Rattle.std.proofs.Common.{rules, ◌-◌, option_map, codes, Err, refl, sym, ap, subst, ◌∙◌, arith}
use Rattle.model.specs.Marks.{group_of}
use Rattle.model.specs.Formula.{none}
use Rattle.model.specs.FormulaBytes.{member_bytes}
use Rattle.make.specs.FormulaText.{item}
use Rattle.make.specs.Reads.{Reads, Gives}
use Rattle.make.specs.Views.{fact_names, IsFormula}
use Rattle.make.proofs.Parsing.{wrong_at, returned, equal, unequal, gives, fails}
use Rattle.make.proofs.Members.{after-none, read-all, read-over, read-wrong, read-more}
use Rattle.make.proofs.FormulaSteps.{group-bare, group-members, item-leaf, item-deep, item-same, item-group, grouped-bytes}
use Rattle.make.proofs.formulas.FactNames.+formulas.Goals as goal

-- ---- a group

pub group-returns-then-ne : goal.group-returns-then-ne
group-returns-then-ne t c =
    let bare = unequal c.next_word-opening-2.result.bytes.now c.as_slice.result.now (codes "(") _ _ c.ne.ensures c.if-ne.true c.as_slice.ensures in
    wrong_at _ _ _ _ _ _ _ (group-bare _ (group_of c.args.group) _ _ _ _ c.next_word-opening.ensures.after c.next_word-opening-2.ensures.bytes bare) c.at.ensures c.next_word-opening-2.ensures.left

pub group-returns-in_err-members : goal.group-returns-in_err-members
group-returns-in_err-members t c =
    let bracket = unequal c.next_word-opening-2.result.bytes.now c.as_slice.result.now (codes "(") _ _ c.ne.ensures c.if-ne.false c.as_slice.ensures in
    let step = group-members _ (group_of c.args.group) _ _ _ _ _ c.next_word-opening.ensures.after c.next_word-opening-2.ensures.bytes c.next_word-opening-2.ensures.after bracket in
    rw (returned c.from_residual.result c.from_residual.ensures.1) (fails _ _ _ _ _ _ step _ _ c.in_err-members.ensures)

pub group-returns : goal.group-returns
group-returns t c =
    let bracket = unequal c.next_word-opening-2.result.bytes.now c.as_slice.result.now (codes "(") _ _ c.ne.ensures c.if-ne.false c.as_slice.ensures in
    let step = group-members _ (group_of c.args.group) _ _ _ _ _ c.next_word-opening.ensures.after c.next_word-opening-2.ensures.bytes c.next_word-opening-2.ensures.after bracket in
    gives _ _ _ _ _ _ step _ _ c.in_ok-members.ensures (λ ms are. rw (grouped-bytes (group_of c.args.group) ms) (rw (← are.count, ← are.bytes) (search rules)))

-- ---- a formula

pub item-returns-in_default : goal.item-returns-in_default
item-returns-in_default t c =
    let plain = ap (option_map group_of) (sym c.in_default.is) ∙ c.group_word.ensures in
    subst (λ r. Reads r c.leaf.result c.leaf.new.text.bytes.now IsFormula) (sym (item-leaf _ _ _ _ _ c.word-word.ensures.bytes plain)) c.leaf.ensures

pub item-returns-then-left-eq0 : goal.item-returns-then-left-eq0
item-returns-then-left-eq0 t c =
    let begins = ap (option_map group_of) (sym c.in-Some.is) ∙ c.group_word.ensures in
    wrong_at _ _ _ _ _ _ _ (item-deep _ _ _ _ _ c.word-word.ensures.bytes begins _ c.if-left-eq0.true) c.at.ensures c.word-word.ensures.left

pub item-returns-then-mark-parent : goal.item-returns-then-mark-parent
item-returns-then-mark-parent t c =
    let begins = ap (option_map group_of) (sym c.in-Some.is) ∙ c.group_word.ensures in
    wrong_at _ _ _ _ _ _ _ (item-same _ _ _ _ _ c.word-word.ensures.bytes begins _ c.if-left-eq0.false (sym c.into-mark.ensures ∙ c.if-mark-parent.true)) c.at-then-mark-parent.ensures c.word-word.ensures.left

pub item-returns : goal.item-returns
item-returns t c =
    let begins = ap (option_map group_of) (sym c.in-Some.is) ∙ c.group_word.ensures in
    let step = item-group (fact_names c.args.self.now) _ _ _ _ c.word-word.ensures.bytes begins c.args.left (c.args.left - 1) (omega arith) (λ e. c.if-mark-parent.false (c.into-mark.ensures ∙ e)) in
    subst (λ r. Reads r c.group.result c.group.new.text.bytes.now IsFormula) (sym step) c.group.ensures

-- ---- the members of a group

pub members-loop-group-init : goal.members-loop-group-init
unfolding member_bytes
members-loop-group-init t c = record {
  before = none;
  are = record { count = refl; bytes = search rules };
  few = omega arith;
  read = after-none _;
}

pub members-returns-then-eq : goal.members-returns-then-eq
members-returns-then-eq t c =
    let shut = equal c.word-word.result.bytes.now c.as_slice.result.now (codes ")") _ _ c.eq.ensures c.if-eq.true c.as_slice.ensures in
    read-all _ _ _ _ _ _ c.word-word.ensures.bytes c.loop-group.invariant _ c.word-word.ensures.after shut

pub members-returns-then-members : goal.members-returns-then-members
members-returns-then-members t c =
    let opened = equal c.word-word.result.bytes.now c.as_slice.result.now (codes ")") _ _ c.eq.ensures c.if-eq.false c.as_slice.ensures in
    wrong_at _ _ _ _ _ _ _ (read-over _ _ _ _ _ _ c.word-word.ensures.bytes c.loop-group.invariant opened c.if-members.true) c.at.ensures c.word-word.ensures.left

pub members-returns-in_err-member : goal.members-returns-in_err-member
members-returns-in_err-member t c =
    let opened = equal c.word-word.result.bytes.now c.as_slice.result.now (codes ")") _ _ c.eq.ensures c.if-eq.false c.as_slice.ensures in
    let wrong = subst (λ p. Reads (item (fact_names c.args.self.now) c.args.left p c.loop-group.text.bytes.now) (Err c.in_err-member.field-0.0) c.item.new.text.bytes.now IsFormula) c.into.ensures c.in_err-member.ensures in
    rw (returned c.from_residual.result c.from_residual.ensures.1) (read-wrong _ _ _ _ _ _ c.word-word.ensures.bytes c.loop-group.invariant opened c.if-members.false _ _ _ _ _ wrong)

pub members-loop-group-preserved : goal.members-loop-group-preserved
members-loop-group-preserved t c =
    let opened = equal c.word-word.result.bytes.now c.as_slice.result.now (codes ")") _ _ c.eq.ensures c.if-eq.false c.as_slice.ensures in
    let given = subst (λ p. Gives (item (fact_names c.args.self.now) c.args.left p c.loop-group.text.bytes.now) c.in_ok-member.member c.item.new.text.bytes.now IsFormula) c.into.ensures c.in_ok-member.ensures in
    read-more _ _ _ _ _ _ c.word-word.ensures.bytes c.loop-group.invariant opened c.if-members.false _ _ _ given refl (search rules)
