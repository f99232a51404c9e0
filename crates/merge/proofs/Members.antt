-- The members that formulas bring to an "all", how many bytes they take and how deep they are. Assumes nothing.
use Rattle.std.proofs.Common.{◌≡◌, refl, sym, ap, ◌∙◌, Bool, true, false, cond, not, ℕ, zero, suc, ◌+◌, ◌-◌, ◌≤◌, ◌<◌, max, arith, length, length-append, leb, ltb, leb-true, leb-false, le-leb, lt-ltb, le-ltb, Option, None, Some}
use Rattle.std.proofs.Math.Bool.{or-true}
use Rattle.std.specs.Option.{is_some}
use Rattle.model.specs.Limits.{max_formula_bytes, max_members, max_depth}
use Rattle.model.specs.Formula.{Literal, Formula, Formulas, lit, all, any, none, more}
use Rattle.model.specs.FormulaBytes.{Group, conjunction, disjunction, grouped, member_count, formula_bytes, member_bytes}
use Rattle.model.specs.Marks.{group_of}
use Rattle.model.specs.declared.marks.Group.TheVariants.{All}
use Rattle.model.specs.Merging.{moved, moved_members, parts, joined, depth, deepest, is_over}
use Rattle.formula.specs.Decoding.{first, after}
use Rattle.formula.specs.Views.{formulas, members, group, after_group}
use Rattle.formula.specs.declared.formulas.Formulas.{Formulas as Bytes}
use Rattle.formula.specs.declared.formulas.Members.{Members}
use Rattle.merge.specs.Members.{Whole, PastMembers}
use Rattle.merge.proofs.Writing.{joined-bytes}
use Rattle.merge.proofs.Sound.{moved-count, moved-member-bytes, joined-deepest}

-- ---- where none comes after the first n, they are all

count-whole : (n : ℕ) (ms : Formulas) → n ≤ member_count ms → after n ms ≡ none → member_count ms ≡ n
count-whole zero ms h e = ap member_count e
count-whole (suc n) none h e = absurd (omega arith)
count-whole (suc n) (more m ms) h e = ap suc (count-whole n ms (omega arith) e)

first-all : (n : ℕ) (ms : Formulas) → member_count ms ≡ n → first n ms ≡ ms
first-all zero none e = refl
first-all zero (more m ms) e = absurd (omega arith)
first-all (suc n) none e = refl
first-all (suc n) (more m ms) e = ap (more m) (first-all n ms (omega arith))

pub members-whole : (m : Members) → Whole m → members m ≡ formulas m.formulas
members-whole m w = first-all m.count (formulas m.formulas) w

-- an "all" that stands alone
module _ {f : Formula} {ms : Formulas} (m : Members) (g : m.group ≡ All) (one : ms ≡ more f none) (e : ms ≡ more (group m) (after_group m)) where
  nothing-after : after_group m ≡ none
  nothing-after = cc

  is-all : f ≡ all (members m)
  is-all = let i : f ≡ group m = cc in rw g at i

  pub all-whole : Whole m
  all-whole = count-whole m.count (formulas m.formulas) m.few nothing-after

  pub all-parts : formulas m.formulas ≡ parts f
  all-parts = rw is-all (sym (members-whole m all-whole))

pub parts-moved : (n : ℕ) (f : Formula) → parts (moved n f) ≡ moved_members n (parts f)
unfolding moved
parts-moved n (lit l) = refl
parts-moved n (all ms) = refl
parts-moved n (any ms) = refl

-- ---- how many bytes they take

pub parts-short : (f : Formula) → length (member_bytes (parts f)) ≤ length (formula_bytes f)
unfolding formula_bytes
parts-short (lit l) = omega arith
parts-short (all ms) = omega arith
parts-short (any ms) = omega (arith, length-append (formula_bytes (any ms)) (member_bytes none))

joined-count : (ms ns : Formulas) → member_count (joined ms ns) ≡ member_count ms + member_count ns
joined-count none ns = omega arith
joined-count (more m ms) ns = omega (arith, joined-count ms ns)

module _ (n : ℕ) (ms ns : Formulas) where
  pub both-bytes : length (formula_bytes (all (joined ms (moved_members n ns)))) ≡ 2 + length (member_bytes ms) + length (member_bytes ns)
  unfolding formula_bytes
  both-bytes =
      let l = length-append (member_bytes ms) (member_bytes (moved_members n ns)) in
      omega (arith, ap length (joined-bytes ms (moved_members n ns)), l, moved-member-bytes n ns)

  pub both-count : member_count (joined ms (moved_members n ns)) ≡ member_count ms + member_count ns
  both-count = omega (arith, joined-count ms (moved_members n ns), moved-count n ns)

-- ---- how deep they are

mutual
  unfolding moved depth

  moved-depth : (n : ℕ) (f : Formula) → depth (moved n f) ≡ depth f
  moved-depth n (lit l) = refl
  moved-depth n (all ms) = ap suc (moved-deepest n ms)
  moved-depth n (any ms) = ap suc (moved-deepest n ms)

  moved-deepest : (n : ℕ) (ms : Formulas) → deepest (moved_members n ms) ≡ deepest ms
  moved-deepest n none = refl
  moved-deepest n (more m ms) = rw (moved-depth n m, moved-deepest n ms)

both-depth : (n : ℕ) (ms ns : Formulas) → depth (all (joined ms (moved_members n ns))) ≡ suc (max (deepest ms) (deepest ns))
unfolding depth
both-depth n ms ns = omega (arith, joined-deepest ms (moved_members n ns), moved-deepest n ns)

group-depth : (m : Members) → depth (group m) ≡ suc (deepest (members m))
unfolding depth
group-depth m = by-group (group_of m.group)
  where
    by-group : (g : Group) → depth (grouped g (members m)) ≡ suc (deepest (members m))
    by-group conjunction = refl
    by-group disjunction = refl

-- ---- going past members

max-fits : (a b n : ℕ) → a ≤ n → leb (max a b) n ≡ leb b n
max-fits a b n h = grind arith

max-over : (a b n : ℕ) → n < a → leb (max a b) n ≡ false
max-over a b n h = grind arith

-- what a call answers
passed : {a b : Formulas} (t : Bool) → ◌≡◌ {A = Option Formulas} (Some a) (cond t (Some b) None) → (t ≡ true) × (a ≡ b)
passed t e = grind arith

stopped : (b : Formulas) (t : Bool) → ◌≡◌ {A = Option Formulas} None (cond t (Some b) None) → t ≡ false
stopped b t e = grind arith

-- what is left of the members m, where none of those passed is too deep
pub record Left (m : Members) (levels : ℕ) (left : Members) : Type 0 where
  pub rest : after_group left ≡ after_group m
  pub deep : leb (deepest (members left)) levels ≡ leb (deepest (members m)) levels

first-next : (n : ℕ) (m : Formula) (ms : Formulas) → 0 < n → first n (more m ms) ≡ more m (first (n - 1) ms)
first-next zero m ms h = absurd (omega arith)
first-next (suc n) m ms h = let e : suc n - 1 ≡ n = omega arith in rw e refl

after-next : (n : ℕ) (m : Formula) (ms : Formulas) → 0 < n → after n (more m ms) ≡ after (n - 1) ms
after-next zero m ms h = absurd (omega arith)
after-next (suc n) m ms h = let e : suc n - 1 ≡ n = omega arith in rw e refl

module _ {m left : Members} {levels : ℕ} (L : Left m levels left) where
  -- the next member
  module _ {x : Formula} {rest : Formulas} (some : 0 < left.count) (e : formulas left.formulas ≡ more x rest) where
    next-deepest : deepest (members left) ≡ max (depth x) (deepest (first (left.count - 1) rest))
    unfolding depth
    next-deepest = rw (e, first-next left.count x rest some)

    pub left-deep : levels < depth x → leb (deepest (members m)) levels ≡ false
    left-deep h = sym L.deep ∙ rw next-deepest (max-over (depth x) (deepest (first (left.count - 1) rest)) levels h)

    pub left-more :
        (left' : Members) → depth x ≤ levels → left'.count ≡ left.count - 1 → formulas left'.formulas ≡ rest → Left m levels left'
    left-more left' h n r =
        record {
          rest = rw (n, r) (sym (after-next left.count x rest some) ∙ rw e at L.rest);
          deep =
              rw (n, r)
              (sym (max-fits (depth x) (deepest (first (left.count - 1) rest)) levels h) ∙ rw next-deepest at L.deep);
        }

  -- the next member is a literal
  pub left-literal :
      {l : Literal} {rest : Formulas} → 0 < left.count → formulas left.formulas ≡ more (lit l) rest → (left' : Members) →
      left'.count ≡ left.count - 1 → formulas left'.formulas ≡ rest → Left m levels left'
  unfolding depth
  left-literal some e left' n r = left-more some e left' (omega arith) n r

  -- the next member is a group
  module _ (inner : Members) (some : 0 < left.count) (e : formulas left.formulas ≡ more (group inner) (after_group inner)) where
    pub left-no-level : levels ≡ 0 → leb (deepest (members m)) levels ≡ false
    left-no-level z = left-deep some e (omega (arith, group-depth inner, z))

    pub left-stops :
        ◌≡◌ {A = Option Formulas} None (cond (leb (deepest (members inner)) (levels - 1)) (Some (after_group inner)) None) →
        leb (deepest (members m)) levels ≡ false
    left-stops h =
        left-deep some e (omega (arith, group-depth inner, leb-false _ _ (stopped (after_group inner) (leb (deepest (members inner)) (levels - 1)) h)))

    pub left-passes :
        {rest : Formulas} (left' : Members) → 0 < levels →
        ◌≡◌ {A = Option Formulas} (Some rest) (cond (leb (deepest (members inner)) (levels - 1)) (Some (after_group inner)) None) →
        left'.count ≡ left.count - 1 → formulas left'.formulas ≡ rest → Left m levels left'
    left-passes left' o h n r =
        let (t, i) = passed (leb (deepest (members inner)) (levels - 1)) h in
        left-more some e left' (omega (arith, group-depth inner, leb-true _ _ t)) n (r ∙ i)

  -- none is left
  pub left-ends : left.count ≤ 0 → Some (formulas left.formulas) ≡ cond (leb (deepest (members m)) levels) (Some (after_group m)) None
  unfolding depth
  left-ends h =
      let z : left.count ≡ 0 = omega arith in
      rw (← L.deep, ← L.rest, z, le-leb 0 levels (omega arith))

-- what a call answers of whole members
pub whole-deepest :
    (r : Option Bytes) (m : Members) (levels : ℕ) (t : Bool) → Whole m → PastMembers m levels r → is_some r ≡ not t →
    leb (deepest (formulas m.formulas)) levels ≡ not t
whole-deepest None m levels t w p i = rw (members-whole m w) at (stopped (after_group m) (leb (deepest (members m)) levels) p) ∙ i
whole-deepest (Some fs) m levels t w p i = rw (members-whole m w) at (passed (leb (deepest (members m)) levels) p).0 ∙ i

-- ---- over a limit

module _ (f : Formula) where
  pub over-bytes : max_formula_bytes < length (formula_bytes f) → is_over f ≡ true
  unfolding is_over
  over-bytes h = rw (lt-ltb max_formula_bytes (length (formula_bytes f)) h)

  pub over-members : max_members < member_count (parts f) → is_over f ≡ true
  unfolding is_over
  over-members h = rw (lt-ltb max_members (member_count (parts f)) h) (or-true (ltb max_formula_bytes (length (formula_bytes f))))

  pub over-depth : max_depth < depth f → is_over f ≡ true
  unfolding is_over
  over-depth h = grind (arith, lt-ltb, or-true)

  pub over-none : length (formula_bytes f) ≤ max_formula_bytes → member_count (parts f) ≤ max_members → is_over f ≡ ltb max_depth (depth f)
  unfolding is_over
  over-none h k = rw (le-ltb max_formula_bytes (length (formula_bytes f)) h, le-ltb max_members (member_count (parts f)) k)

module _ (n : ℕ) (ms ns : Formulas) where
  pub deep-first : leb (deepest ms) (max_depth - 1) ≡ false → max_depth < depth (all (joined ms (moved_members n ns)))
  deep-first e = omega (arith, both-depth n ms ns, leb-false (deepest ms) (max_depth - 1) e)

  pub deep-second :
      (t : Bool) → leb (deepest ms) (max_depth - 1) ≡ true → leb (deepest ns) (max_depth - 1) ≡ not t →
      ltb max_depth (depth (all (joined ms (moved_members n ns)))) ≡ t
  deep-second true e h = lt-ltb max_depth _ (omega (arith, both-depth n ms ns, leb-false (deepest ns) (max_depth - 1) h))
  deep-second false e h =
      le-ltb max_depth _ (omega (arith, both-depth n ms ns, leb-true (deepest ms) (max_depth - 1) e, leb-true (deepest ns) (max_depth - 1) h))
