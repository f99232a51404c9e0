-- Two sound problems within the limits make a sound one, and no limit refuses a sound one. Assumes nothing.
use Rattle.std.proofs.Common.{◌≡◌, refl, ap, ◌∙◌, subst, Bool, false, cond, ◌||◌, List, [], ◌∷◌, map, ℕ, zero, suc, ◌+◌, ◌-◌, ◌≤◌, ◌<◌, max, arith, length, length-append, ltb, ltb-false, le-ltb}
use lib.ListN.{length-map}
use Rattle.model.specs.declared.Limits.{Limits}
use Rattle.model.specs.Limits.{version2, max_facts, max_actions, max_problem_bytes, max_formula_bytes, max_members, max_depth}
use Rattle.model.specs.Answer.{Answer, refused, answered}
use Rattle.model.specs.Formula.{Literal, fact, denial, Formula, Formulas, lit, all, any, none, more}
use Rattle.model.specs.Action.{Effect, Action}
use Rattle.model.specs.FormulaBytes.{literal_byte, member_count, formula_bytes, member_bytes}
use Rattle.model.specs.ProblemBytes.{Problem, action_at, encode_problem}
use Rattle.model.specs.WellFormed.{Each, Declared, Formed, FormedAll, FormulaOk, EffectsOk, ActionOk, ProblemOk, Sensible}
use Rattle.model.specs.Merging.{moved_literal, moved, moved_members, moved_effect, moved_action, parts, joined, both, depth, deepest, is_over, halls, sized}
use Rattle.model.proofs.Laws.Plans.{each_append, each_map}
use Rattle.model.proofs.Laws.Truth.{or-false}

-- ---- what is moved up by 0 stays where it is

zero-literal : (l : Literal) → moved_literal 0 l ≡ l
zero-literal (fact f) = let z : 0 + f ≡ f = omega arith in ap fact z
zero-literal (denial f) = let z : 0 + f ≡ f = omega arith in ap denial z

mutual
  unfolding moved

  pub zero-formula : (f : Formula) → moved 0 f ≡ f
  zero-formula (lit l) = ap lit (zero-literal l)
  zero-formula (all ms) = ap all (zero-members ms)
  zero-formula (any ms) = ap any (zero-members ms)

  pub zero-members : (ms : Formulas) → moved_members 0 ms ≡ ms
  zero-members none = refl
  zero-members (more m ms) = rw (zero-formula m, zero-members ms) refl

zero-effects : (es : List Effect) → map (moved_effect 0) es ≡ es
zero-effects [] = refl
zero-effects (e ∷ es) = rw (zero-literal e.literal, zero-formula e.condition, zero-effects es) refl

-- the first hall's actions are among these
pub zero-action : (a : Action) → moved_action 0 a ≡ a
zero-action a = rw (zero-formula a.precondition, zero-effects a.effects) refl

pub zero-actions : (as' : List Action) → map (moved_action 0) as' ≡ as'
zero-actions [] = refl
zero-actions (a ∷ as') = rw (zero-action a, zero-actions as') refl

-- ---- how deep groups stand in one another

mutual
  unfolding Formed depth

  formed-depth : (facts left parent : ℕ) (f : Formula) → Formed facts left parent f → depth f ≤ left
  formed-depth facts left parent (lit l) d = omega arith
  formed-depth facts left parent (all ms) (o, k, c, a) = omega (arith, formed-deepest facts (left - 1) 0x80 ms a)
  formed-depth facts left parent (any ms) (o, k, c, a) = omega (arith, formed-deepest facts (left - 1) 0x81 ms a)

  formed-deepest : (facts left parent : ℕ) (ms : Formulas) → FormedAll facts left parent ms → deepest ms ≤ left
  formed-deepest facts left parent none d = omega arith
  formed-deepest facts left parent (more m ms) (d, a) =
      omega (arith, formed-depth facts left parent m d, formed-deepest facts left parent ms a)

-- ---- the part of a hall of m facts, moved up by n, among more facts

pub moved-byte : (n : ℕ) (l : Literal) → literal_byte (moved_literal n l) ≡ n + literal_byte l
moved-byte n (fact f) = refl
moved-byte n (denial f) = omega arith

pub moved-count : (n : ℕ) (ms : Formulas) → member_count (moved_members n ms) ≡ member_count ms
unfolding moved
moved-count n none = refl
moved-count n (more m ms) = ap suc (moved-count n ms)

mutual
  unfolding moved formula_bytes

  pub moved-bytes : (n : ℕ) (f : Formula) → length (formula_bytes (moved n f)) ≡ length (formula_bytes f)
  moved-bytes n (lit l) = refl
  moved-bytes n (all ms) = ap (λ (k : ℕ). suc (suc k)) (moved-member-bytes n ms)
  moved-bytes n (any ms) = ap (λ (k : ℕ). suc (suc k)) (moved-member-bytes n ms)

  pub moved-member-bytes : (n : ℕ) (ms : Formulas) → length (member_bytes (moved_members n ms)) ≡ length (member_bytes ms)
  moved-member-bytes n none = refl
  moved-member-bytes n (more m ms) =
      rw (length-append (formula_bytes (moved n m)) (member_bytes (moved_members n ms)), length-append (formula_bytes m) (member_bytes ms))
      (omega (arith, moved-bytes n m, moved-member-bytes n ms))

module _ (n m facts : ℕ) (in-facts : n + m ≤ facts) where
  moved-declared : (l : Literal) → Declared m l → Declared facts (moved_literal n l)
  moved-declared (fact f) d = omega (arith, d, in-facts)
  moved-declared (denial f) d = omega (arith, d, in-facts)

mutual
  unfolding moved Formed depth

  -- only the depth counts of how many groups may nest
  moved-formed :
      (n m facts left left' parent : ℕ) (f : Formula) → n + m ≤ facts → depth f ≤ left' → Formed m left parent f → Formed facts left' parent (moved n f)
  moved-formed n m facts left left' parent (lit l) h g d = moved-declared n m facts h l d
  moved-formed n m facts left left' parent (all ms) h g (o, k, c, a) =
      (omega arith, k, rw (moved-count n ms) c, moved-formed-all n m facts (left - 1) (left' - 1) 0x80 ms h (omega arith) a)
  moved-formed n m facts left left' parent (any ms) h g (o, k, c, a) =
      (omega arith, k, rw (moved-count n ms) c, moved-formed-all n m facts (left - 1) (left' - 1) 0x81 ms h (omega arith) a)

  moved-formed-all :
      (n m facts left left' parent : ℕ) (ms : Formulas) → n + m ≤ facts → deepest ms ≤ left' → FormedAll m left parent ms →
      FormedAll facts left' parent (moved_members n ms)
  moved-formed-all n m facts left left' parent none h g d = tt
  moved-formed-all n m facts left left' parent (more x ms) h g (d, a) =
      (moved-formed n m facts left left' parent x h (omega arith) d, moved-formed-all n m facts left left' parent ms h (omega arith) a)

-- a lower bound that is met is met lower down
lower-effects : (facts least least' : ℕ) (es : List Effect) → least' ≤ least → EffectsOk facts least es → EffectsOk facts least' es
lower-effects facts least least' [] h k = tt
lower-effects facts least least' (e ∷ es) h (d, l, f, k) = (d, omega arith, f, k)

module _ (n m facts : ℕ) (in-facts : n + m ≤ facts) where
  moved-formula : (f : Formula) → FormulaOk m f → FormulaOk facts (moved n f)
  moved-formula f k =
      record {
        formed = moved-formed n m facts max_depth max_depth 0 f in-facts (formed-depth m max_depth 0 f k.formed) k.formed;
        short = rw (moved-bytes n f) k.short;
      }

  -- moved literals keep rising
  moved-effects : (least : ℕ) (es : List Effect) → EffectsOk m least es → EffectsOk facts (n + least) (map (moved_effect n) es)
  moved-effects least [] k = tt
  moved-effects least (e ∷ es) (d, l, f, k) = (
    moved-declared n m facts in-facts e.literal d,
    omega (arith, l, moved-byte n e.literal),
    moved-formula e.condition f,
    lower-effects facts (n + (literal_byte e.literal + 1)) (literal_byte (moved_literal n e.literal) + 1) (map (moved_effect n) es)
        (omega (arith, moved-byte n e.literal))
        (moved-effects (literal_byte e.literal + 1) es k),
  )

  moved-action-ok : (F : Limits) → F.effects ≤ version2.effects → (a : Action) → ActionOk F m a → ActionOk version2 facts (moved_action n a)
  moved-action-ok F few a k =
      record {
        precondition = moved-formula a.precondition k.precondition;
        count = omega (arith, few, k.count, length-map a.effects (moved_effect n));
        effects = lower-effects facts (n + 0) 0 (map (moved_effect n) a.effects) (omega arith) (moved-effects 0 a.effects k.effects);
      }

  moved-actions-ok :
      (F : Limits) → F.effects ≤ version2.effects → (as' : List Action) → Each (ActionOk F m) as' →
      Each (ActionOk version2 facts) (map (moved_action n) as')
  moved-actions-ok F few = each_map (ActionOk F m) (ActionOk version2 facts) (moved_action n) (moved-action-ok F few)

-- ---- the "all" of two formulas

joined-formed :
    (facts left parent : ℕ) (ms ns : Formulas) → FormedAll facts left parent ms → FormedAll facts left parent ns →
    FormedAll facts left parent (joined ms ns)
unfolding Formed
joined-formed facts left parent none ns a b = b
joined-formed facts left parent (more m ms) ns (d, a) b = (d, joined-formed facts left parent ms ns a b)

pub joined-deepest : (ms ns : Formulas) → deepest (joined ms ns) ≡ max (deepest ms) (deepest ns)
unfolding depth
joined-deepest none ns = omega arith
joined-deepest (more m ms) ns = omega (arith, joined-deepest ms ns)

-- what a formula brings may stand in an "all", if it is not too deep: an "all" taken apart holds no "all", and an "any" or a literal is none
parts-formed :
    (facts : ℕ) (f : Formula) → Formed facts max_depth 0 f → deepest (parts f) ≤ max_depth - 1 →
    FormedAll facts (max_depth - 1) 0x80 (parts f)
unfolding Formed depth
parts-formed facts (lit l) d h = (d, tt)
parts-formed facts (all ms) (o, k, c, a) h = a
parts-formed facts (any ms) (o, k, c, a) h =
    let same = zero-members ms in
    ((omega arith, λ e. omega arith, c, subst (FormedAll facts (max_depth - 1 - 1) 0x81) same (moved-formed-all 0 facts facts (max_depth - 1) (max_depth - 1 - 1) 0x81 ms (omega arith) (omega arith) a)), tt)

-- within its limits
pub record Within (f : Formula) : Type 0 where
  pub bytes : length (formula_bytes f) ≤ max_formula_bytes
  pub members : member_count (parts f) ≤ max_members
  pub nests : depth f ≤ max_depth

pub not-over : (f : Formula) → is_over f ≡ false → Within f
unfolding is_over
not-over f e =
    let (a, r) = or-false (ltb max_formula_bytes (length (formula_bytes f))) (ltb max_members (member_count (parts f)) || ltb max_depth (depth f)) e in
    let (b, c) = or-false (ltb max_members (member_count (parts f))) (ltb max_depth (depth f)) r in
    record { bytes = ltb-false _ _ a; members = ltb-false _ _ b; nests = ltb-false _ _ c }

both-ok : (facts : ℕ) (f g : Formula) → Formed facts max_depth 0 f → Formed facts max_depth 0 g → is_over (both f g) ≡ false → FormulaOk facts (both f g)
unfolding Formed depth
both-ok facts f g a b e =
    let w = not-over (both f g) e in
    let h : deepest (joined (parts f) (parts g)) ≤ max_depth - 1 = omega (arith, w.nests) in
    record {
      formed = (
        omega arith,
        λ k. omega arith,
        omega (arith, w.members),
        joined-formed facts (max_depth - 1) 0x80 (parts f) (parts g)
            (parts-formed facts f a (omega (arith, joined-deepest (parts f) (parts g))))
            (parts-formed facts g b (omega (arith, joined-deepest (parts f) (parts g)))),
      );
      short = w.bytes;
    }

-- no limit refuses a sound formula
parts-count : (facts : ℕ) (f : Formula) → Formed facts max_depth 0 f → member_count (parts f) ≤ max_members
unfolding Formed
parts-count facts (lit l) d = omega arith
parts-count facts (all ms) (o, k, c, a) = omega arith
parts-count facts (any ms) d = omega arith

ok-not-over : (facts : ℕ) (f : Formula) → FormulaOk facts f → is_over f ≡ false
unfolding is_over
ok-not-over facts f k =
    rw (
      le-ltb max_formula_bytes (length (formula_bytes f)) k.short,
      le-ltb max_members (member_count (parts f)) (parts-count facts f k.formed),
      le-ltb max_depth (depth f) (formed-depth facts max_depth 0 f k.formed),
    )

-- ---- what is asked of a merged problem

-- a refusal that was not met
passed :
    {A : Type 0} (n q : ℕ) {r : A} (b : Bool) (x : Answer A) → cond b (refused n q) x ≡ answered r → (b ≡ false) × (x ≡ answered r)
passed n q b x e = grind arith

pub halls-count : (p q : Problem) → length (halls p q).actions ≡ length p.actions + length q.actions
halls-count p q =
    length-append p.actions (map (moved_action p.facts) q.actions) ∙
    ap (λ (k : ℕ). length p.actions + k) (length-map q.actions (moved_action p.facts))

-- within every limit
pub record Fits (r : Problem) : Type 0 where
  pub facts : r.facts ≤ max_facts
  pub count : length r.actions ≤ max_actions
  pub initial : is_over r.initial ≡ false
  pub goal : is_over r.goal ≡ false
  pub short : length (encode_problem version2 r) ≤ max_problem_bytes

pub sized-fits : (r : Problem) → sized r ≡ answered r → Fits r
unfolding sized
sized-fits r e =
    let (a, e₁) = passed 82 0 (ltb max_facts r.facts) _ e in
    let (b, e₂) = passed 83 0 (ltb max_actions (length r.actions)) _ e₁ in
    let (c, e₃) = passed 84 0 (is_over r.initial || is_over r.goal) _ e₂ in
    let (d, _) = passed 85 0 (ltb max_problem_bytes (length (encode_problem version2 r))) _ e₃ in
    let (i, g) = or-false (is_over r.initial) (is_over r.goal) c in
    record {
      facts = ltb-false _ _ a;
      count = ltb-false _ _ b;
      initial = i;
      goal = g;
      short = ltb-false _ _ d;
    }

fits-sized : (r : Problem) → Fits r → sized r ≡ answered r
unfolding sized
fits-sized r k =
    rw (
      le-ltb max_facts r.facts k.facts,
      le-ltb max_actions (length r.actions) k.count,
      k.initial,
      k.goal,
      le-ltb max_problem_bytes (length (encode_problem version2 r)) k.short,
    )

-- a number below the length finds an action of the list
pub each-at : (P : Action → Type 0) (as' : List Action) (i : ℕ) → i < length as' → Each P as' → P (action_at as' i)
unfolding action_at
each-at P [] i h x = absurd (omega arith)
each-at P (a ∷ as') zero h x = x.0
each-at P (a ∷ as') (suc i) h x = each-at P as' i (omega arith) x.1

-- ---- the merged problem

module _ (F G : Limits) (S : Sensible F) (S' : Sensible G) (p q : Problem) (ok : ProblemOk F p) (ok' : ProblemOk G q) where
  abbrev facts : ℕ
  facts = p.facts + q.facts

  -- the "all" of a formula of each hall, where the first's is moved up by 0
  both-formed :
      (f g : Formula) → FormulaOk p.facts f → FormulaOk q.facts g → is_over (both f (moved p.facts g)) ≡ false → FormulaOk facts (both f (moved p.facts g))
  both-formed f g k k' =
      let first = subst (FormulaOk facts) (zero-formula f) (moved-formula 0 p.facts facts (omega arith) f k) in
      both-ok facts f (moved p.facts g) first.formed (moved-formula p.facts q.facts facts (omega arith) g k').formed

  pub halls-sound : sized (halls p q) ≡ answered (halls p q) → ProblemOk version2 (halls p q)
  halls-sound e =
      let k = sized-fits (halls p q) e in
      record {
        some_fact = omega (arith, ok.some_fact);
        facts = k.facts;
        count = k.count;
        initial = both-formed p.initial q.initial ok.initial ok'.initial k.initial;
        goal = both-formed p.goal q.goal ok.goal ok'.goal k.goal;
        actions =
            each_append (ActionOk version2 facts) p.actions (map (moved_action p.facts) q.actions)
            (subst (Each (ActionOk version2 facts)) (zero-actions p.actions)
            (moved-actions-ok 0 p.facts facts (omega arith) F S.effects p.actions ok.actions))
            (moved-actions-ok p.facts q.facts facts (omega arith) G S'.effects q.actions ok'.actions);
        short = k.short;
      }

  pub halls-sized : ProblemOk version2 (halls p q) → sized (halls p q) ≡ answered (halls p q)
  halls-sized k =
      fits-sized (halls p q)
      (record {
        facts = k.facts;
        count = k.count;
        initial = ok-not-over facts (halls p q).initial k.initial;
        goal = ok-not-over facts (halls p q).goal k.goal;
        short = k.short;
      })
