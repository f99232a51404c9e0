-- One formula by its head, and the members of a group one after the other. Assumes nothing.
use Rattle.std.proofs.Common.{◌≡◌, refl, sym, ◌∙◌, true, ltb, get_or, List, ℕ, zero, suc, ◌+◌, ◌-◌, ◌<◌, ◌≤◌, arith, Result, Ok, Err}
use Rattle.model.specs.Formula.{Formula, more}
use Rattle.model.specs.Read.{Read, Reader, reject, got, and_then, done, position, byte, ◌>>=◌}
use Rattle.model.specs.FormulaBytes.{Group, conjunction, disjunction, mark, is_literal, grouped, members, head, head_from, whole, item}
use Rattle.model.proofs.Laws.Truth.{and-true}
use Rattle.model.specs.Marks.{group_of}
use Rattle.model.specs.declared.Refusal.{Refusal}
use Rattle.model.specs.declared.marks.Group.{Group as Kind}
use Rattle.model.specs.declared.marks.Group.TheVariants.{All, Any}
use Rattle.formula.specs.Heads.{literal_at, Headed}
use Rattle.formula.specs.Readings.{forgotten, position_read, rejected}
use Rattle.formula.specs.declared.read.GroupHead.{GroupHead}
use Rattle.formula.proofs.Readers.{then_next, onto, then-onto}

module _ (s : List ℕ) (end facts : ℕ) where
  -- n members of a group with this mark, from p on
  abbrev pub row : ℕ → ℕ → ℕ → ℕ → Read (Unit {0})
  row left parent n p = forgotten (members s end facts (item s end facts left parent) n p)

  -- what reads a member of a group that may hold so many more groups, one in the other
  abbrev inner : ℕ → ℕ → Reader Formula
  inner zero parent = λ p. reject 19 p
  inner (suc left) parent = item s end facts left parent

  item-is : (left parent p : ℕ) → item s end facts left parent p ≡ and_then (head s end facts left parent p) (whole s end facts (inner left))
  unfolding item ◌>>=◌
  item-is zero parent p = refl
  item-is (suc left) parent p = refl

  module _ (left parent p : ℕ) where
    pub item-refused : (r : Refusal) → Headed s end facts left parent p (Err r) → rejected r ≡ forgotten (item s end facts left parent p)
    unfolding and_then forgotten
    item-refused r h = rw (item-is, ← h.is)

    pub item-literal : true ≡ literal_at s end facts p → got tt (p + 1) ≡ forgotten (item s end facts left parent p)
    unfolding whole head head_from position byte ◌>>=◌ and_then done forgotten
    item-literal e = let (h, l) = and-true (ltb p end) (is_literal facts (get_or s p 0)) (sym e) in rw (item-is, h, l)

    pub item-group :
        (g : GroupHead) → Headed s end facts left parent p (Ok g) →
        row (left - 1) (mark (group_of g.group)) g.count (p + 2) ≡ forgotten (item s end facts left parent p)
    unfolding item whole ◌>>=◌ and_then done
    item-group g h = by-left left h
      where
        by-left :
            (l : ℕ) → Headed s end facts l parent p (Ok g) →
            row (l - 1) (mark (group_of g.group)) g.count (p + 2) ≡ forgotten (item s end facts l parent p)
        by-left zero h = absurd (omega (arith, h.placed.1))
        by-left (suc l) h =
            let d : suc l - 1 ≡ l = omega arith in
            rw (← h.is, d) (sym (then_next (members s end facts (item s end facts l (mark (group_of g.group))) g.count (p + 2)) (grouped (group_of g.group))))

  -- in a group stands one of the other kind
  abbrev other : Group → Group
  other conjunction = disjunction
  other disjunction = conjunction

  pub item-in :
      (k : Group) (left p : ℕ) (g : GroupHead) → Headed s end facts left (mark k) p (Ok g) →
      row (left - 1) (mark (other k)) g.count (p + 2) ≡ forgotten (item s end facts left (mark k) p)
  item-in k left p g h = rw (kind k g.group h.placed.2) at (item-group left (mark k) p g h)
    where
      kind : (k : Group) (g : Kind) → (mark (group_of g) ≡ mark k → ⊥) → group_of g ≡ other k
      kind conjunction All n = absurd (n refl)
      kind conjunction Any n = refl
      kind disjunction All n = refl
      kind disjunction Any n = absurd (n refl)

  module _ (left parent : ℕ) where
    pub row_ends : (n p : ℕ) → n ≤ 0 → got tt p ≡ row left parent n p
    unfolding members done forgotten
    row_ends zero p h = refl
    row_ends (suc n) p h = absurd (omega arith)

    pub row_first : (n p : ℕ) → 0 < n → onto (row left parent (n - 1)) (forgotten (item s end facts left parent p)) ≡ row left parent n p
    unfolding members ◌>>=◌ done
    row_first zero p h = absurd (omega arith)
    row_first (suc n) p h =
        let d : suc n - 1 ≡ n = omega arith in
        let one = item s end facts left parent in
        rw d (then-onto (one p) _ _ (λ m q. sym (then_next (members s end facts one n q) (more m))))

    -- the members from the k-th on read as `all` does; so they do from the next on, and a refusal is that of all
    module _
        (n k p : ℕ) (all : Read (Unit {0})) (here : k < n) (so : row left parent (n - k) p ≡ all) (r : Result ℕ Refusal)
        (is : position_read r ≡ forgotten (item s end facts left parent p)) where
      turned : onto (row left parent (n - k - 1)) (position_read r) ≡ all
      turned = rw is (row_first (n - k) p (omega arith)) ∙ so

      pub row-goes : (next : ℕ) → r ≡ Ok next → row left parent (n - (k + 1)) next ≡ all
      row-goes next e = let d : n - (k + 1) ≡ n - k - 1 = omega arith in rw d (rw e at turned)

      pub row-stops : (x : Refusal) → r ≡ Err x → rejected x ≡ all
      row-stops x e = rw e at turned
