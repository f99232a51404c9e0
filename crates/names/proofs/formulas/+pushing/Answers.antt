use Rattle.std.proofs.Common.{◌++◌, ◌<◌, List, ℕ, append_assoc, arith, ap, sym, ◌∙◌, string_bytes}
use Rattle.model.specs.Marks.{group_of}
use Rattle.formula.specs.Views.{formulas, members}
use Rattle.formula.proofs.Sizes.{members-fewer}
use Rattle.names.specs.Views.{names}
use Rattle.names.proofs.Texts.{sizes-after, literal-first, group-first, member-first, no-member, after-first}
use Rattle.names.proofs.formulas.+pushing.Goals as goal

pub push_first-push_members-requires : goal.push_first-push_members-requires
push_first-push_members-requires t c = omega (arith, members-fewer _ _ _ _ c.in-Group.ensures)

pub push_first-returns-in_ok-write-in-Literal-clause-text : goal.push_first-returns-in_ok-write-in-Literal-clause-text
push_first-returns-in_ok-write-in-Literal-clause-text t c =
    rw (literal-first (names c.args.names) c.in-Literal.ensures) c.in_ok-write-in-Literal.ensures.bytes

pub push_first-returns-in_ok-push_str-in-Group-clause-text : goal.push_first-returns-in_ok-push_str-in-Group-clause-text
push_first-returns-in_ok-push_str-in-Group-clause-text t c =
    let e = group-first (names c.args.names) (group_of c.in-Group.members.group) (members c.in-Group.members) c.in-Group.ensures in
    rw (c.in_ok-push_str-in-Group.ensures.bytes, c.opening.ensures, append_assoc, ← e) at c.push_members.ensures.text

pub push_members-loop-left-preserved : goal.push_members-loop-left-preserved
push_members-loop-left-preserved t c =
    let past = c.past_first-left.ensures in
    let rest = past.formulas ∙ c.in_ok-rest.ensures.rest in
    let (written, follow, fewer) = c.loop-left.invariant in
    let left = c.loop-left.left in
    let some : 0 < left.count = omega arith in
    let e = member-first (names c.args.names) left.count (formulas left.formulas) some left.few in (
      rw (c.in_ok-rest.ensures.text, past.count, rest, append_assoc, c.in_ok-push_str.ensures.bytes, append_assoc)
          (ap (λ (x : List ℕ). string_bytes c.loop-left.out ++ x) (sym e) ∙ written),
      rw (past.count, rest) (sym (after-first left.count (formulas left.formulas) some) ∙ follow),
      rw rest (omega (arith, fewer, sizes-after (formulas left.formulas))),
    )

pub push_members-returns-clause-text : goal.push_members-returns-clause-text
push_members-returns-clause-text t c =
    let e = no-member (names c.args.names) c.loop-left.left.count _ (omega arith) in
    c.in_ok-push_str-2.ensures.bytes ∙ (ap (λ (x : List ℕ). string_bytes c.loop-left.out ++ x) (sym e) ∙ c.loop-left.invariant.0)
