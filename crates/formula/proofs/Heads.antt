-- What a formula begins with: the cases of `head` under the tests that lead to them. Assumes nothing.
use Rattle.std.proofs.Common.{◌≡◌, refl, false, List, ℕ, ◌+◌, ◌<◌, ◌≤◌, arith, get_or, eqb, ltb, lt-ltb, le-ltb, ne_eqb, Option, None, Some, Ok, Err}
use Rattle.std.proofs.lemmas.Bool.{eqb-false}
use Rattle.model.specs.Faults.{fault_number, refusal_at}
use Rattle.model.specs.Marks.{group_of}
use Rattle.model.specs.Read.{reject, Reader, and_then, done, position, require, byte, ◌>>=◌, ◌>>◌}
use Rattle.model.specs.FormulaBytes as bytes
use Rattle.model.specs.FormulaBytes.{mark, is_literal, group_head, head_from, head}
use Rattle.model.specs.declared.Refusal.{Refusal}
use Rattle.model.specs.declared.fault.Fault.{Fault}
use Rattle.model.specs.declared.fault.Fault.TheVariants.{Member, Depth, FormulaEnds}
use Rattle.model.specs.declared.marks.Group.{Group}
use Rattle.model.specs.declared.marks.Group.TheVariants.{All, Any}
use Rattle.formula.specs.Heads.{literal_at, parent_mark, Headed}

-- the mark of the group g is none of the parent's
new-mark : (g : Group) (parent : Option Group) → (Some g ≡ parent → ⊥) → eqb (mark (group_of g)) (parent_mark parent) ≡ false
new-mark All None n = refl
new-mark All (Some All) n = absurd (n refl)
new-mark All (Some Any) n = refl
new-mark Any None n = refl
new-mark Any (Some All) n = refl
new-mark Any (Some Any) n = absurd (n refl)

module _ (s : List ℕ) (end facts left p : ℕ) where
  -- a group's head, its mark passed
  abbrev group_rest : Group → Reader bytes.Head
  group_rest g = do
    require (ltb 0 left) 19 p
    m ← byte s end 20
    done (bytes.group (group_of g) m)

  group-new :
      (g : Group) (parent : Option Group) → (Some g ≡ parent → ⊥) →
      group_head s end facts left (parent_mark parent) p (mark (group_of g)) (p + 1) ≡ group_rest g (p + 1)
  unfolding group_head ◌>>◌ and_then require
  group-new All parent n = rw (new-mark All parent n)
  group-new Any parent n = rw (new-mark Any parent n)

  repeated : (g : Group) → reject 18 p ≡ group_head s end facts left (mark (group_of g)) p (mark (group_of g)) (p + 1)
  unfolding group_head ◌>>◌ and_then require
  repeated All = refl
  repeated Any = refl

module _ (s : List ℕ) (end facts left : ℕ) (parent : Option Group) (p : ℕ) where
  abbrev m : ℕ
  m = parent_mark parent

  refuses :
      {f : Fault} {q : ℕ} {r : Refusal} → r ≡ refusal_at f q → reject (fault_number f) q ≡ head s end facts left m p →
      Headed s end facts left m p (Err r)
  refuses e h = record { is = rw e h; placed = tt }

  pub head-end : {r : Refusal} → r ≡ refusal_at FormulaEnds end → end ≤ p → Headed s end facts left m p (Err r)
  unfolding head ◌>>=◌ and_then position byte
  head-end e h = refuses e (simp le-ltb)

  module _ (h : p < end) (none : literal_at s end facts p ≡ false) where
    head-group : head s end facts left m p ≡ group_head s end facts left m p (get_or s p 0) (p + 1)
    unfolding head ◌>>=◌ and_then position byte head_from
    head-group = let l : is_literal facts (get_or s p 0) ≡ false = rw (lt-ltb p end h) at none in simp (lt-ltb, l)

    pub head-unmarked :
        {r : Refusal} → r ≡ refusal_at Member p → ((g : Group) → get_or s p 0 ≡ mark (group_of g) → ⊥) → Headed s end facts left m p (Err r)
    unfolding group_head ◌>>◌ and_then require
    head-unmarked e out =
        let a = ne_eqb (get_or s p 0) 0x80 (out All) in
        let o = ne_eqb (get_or s p 0) 0x81 (out Any) in
        refuses e (rw (head-group, a, o))

    module _ (g : Group) (b : get_or s p 0 ≡ mark (group_of g)) where
      pub head-repeated : {r : Refusal} → r ≡ refusal_at Member p → Some g ≡ parent → Headed s end facts left m p (Err r)
      head-repeated e k = refuses e (rw (head-group, b, ← k) (repeated s end facts left p g))

      module _ (new : Some g ≡ parent → ⊥) where
        counted : head s end facts left m p ≡ group_rest s end facts left p g (p + 1)
        counted = rw (head-group, b) (group-new s end facts left p g parent new)

        pub head-deep : {r : Refusal} → r ≡ refusal_at Depth p → left ≡ 0 → Headed s end facts left m p (Err r)
        unfolding ◌>>◌ and_then require
        head-deep e d = refuses e (rw (counted, d))

        pub head-cut : {r : Refusal} → r ≡ refusal_at FormulaEnds end → 0 < left → end ≤ p + 1 → Headed s end facts left m p (Err r)
        unfolding ◌>>◌ ◌>>=◌ and_then require byte
        head-cut e d k = refuses e (rw counted (simp (lt-ltb, le-ltb)))

        pub head-whole : 0 < left → p + 1 < end → Headed s end facts left m p (Ok (record { group = g; count = get_or s (p + 1) 0 }))
        unfolding ◌>>◌ ◌>>=◌ and_then require byte done
        head-whole d e =
            let t : p + 2 ≡ p + 1 + 1 = omega arith in
            record { is = rw (counted, t) (simp lt-ltb); placed = (e, d, eqb-false _ _ (new-mark g parent new)) }
