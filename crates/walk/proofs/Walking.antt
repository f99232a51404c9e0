-- The walk through a block, lane after lane: what was walked so far, the walk from the lane that is turned to, and the walks that come after
-- it are the walk from the block's own case. Assumes nothing.
use Rattle.std.proofs.Common.{◌≡◌, refl, sym, ap, ◌∙◌, subst, Bool, true, false, cond, ◌⊎◌, inl, inr, List, [], ◌∷◌, ◌++◌, ℕ, zero, suc, ◌+◌, ◌*◌, ◌-◌, ◌/◌, ◌%◌, ◌^◌, ◌≤◌, ◌<◌, arith, pow-suc, eqb, length, length-append, pow_pos, pow_mono, eq-eqb, ne_eqb, Some, Result, Ok, Err, IsTrue, ◌↔◌}
use native.Mathlib.Decide.{dec_le}
use Rattle.model.specs.Kleene.{Kleene, three}
use Rattle.model.specs.Formula.{eval}
use Rattle.model.specs.Run.{run}
use Rattle.model.specs.Case as model-case
use Rattle.model.specs.Walk as model
use Rattle.model.specs.Walk.{Line, Walked, covered, failed, opened, visits, join, walk_from, walk, walked, look_of, look_at}
use Rattle.model.specs.declared.marks.Kind.{Kind}
use Rattle.model.proofs.Laws.Cover.{block-of-mod, mod-of-block, agree}
use Rattle.model.proofs.Laws.Grants.{visits-walk}
use Rattle.model.proofs.Laws.Splitting.{case-first}
use Rattle.cases.specs.declared.case.Case as table
use Rattle.cases.specs.declared.cases.Cases.{Cases}
use Rattle.cases.specs.Cases.{case_of, Common, values_of}
use Rattle.cases.specs.Blocks.{block_case}
use Rattle.cases.specs.Words.{raised, SameCase}
use Rattle.cases.proofs.Tables.{raised-bit}
use Rattle.runs.specs.declared.lanes.Looks.{Looks}
use Rattle.runs.specs.Looks.{kind_look, LooksAt}
use Rattle.runs.proofs.Running.{looks-same}
use Rattle.blocks.specs.declared.task.Task as blocks
use Rattle.blocks.specs.Values as values
use Rattle.blocks.proofs.Tasks.{task-width, task-facts, facts-fit}
use Rattle.walk.specs.declared.block.Block as block
use Rattle.walk.specs.declared.case.Case.{Case}
use Rattle.walk.specs.declared.visits.Closed as done
use Rattle.walk.specs.declared.visits.Stopped.{Stopped}
use Rattle.walk.specs.declared.visits.Stopped.TheVariants.{OutOfVisits, Failed}
use Rattle.walk.specs.Lanes.{OnLevel, IsAfter, block_of, first_levels}
use Rattle.walk.specs.Cases.{closed_line}
use Rattle.walk.specs.declared.tables.Tables.{Tables}
use Rattle.walk.specs.Tables.{facts_of, StandsAt, AtFirst, block_at}
use Rattle.walk.specs.Nodes.{task_of, limits_of, look_in, case_at, walk_of, walk_at, At}
use Rattle.walk.specs.Walks.{Walks}
use Rattle.walk.proofs.Lanes.{HasCase, lane-case, half-level, level-within, no-level, first-level, level_le, one-level, below_ge, below-number, below-fits, edge-fits, number-no, number-yes, number-room}
use Rattle.walk.proofs.Sequence.{and_then, nothing, nothing-then, then-nothing, then-covered, then-split, then-failed, visits-then}

-- ---- one visit

walk-closed : (w : ℕ) (look : ℕ → ℕ → model.Look) (d k v : ℕ) (κ : model.Kind) → walk_from w look d (model.closed κ) k v ≡ covered (model.line κ k v ∷ []) 1
unfolding walk_from
walk-closed w look zero k v κ = refl
walk-closed w look (suc d) k v κ = refl

walk-failing : (w : ℕ) (look : ℕ → ℕ → model.Look) (k v : ℕ) → walk_from w look 0 opened k v ≡ failed v 1
unfolding walk_from
walk-failing w look k v = refl

walk_split :
    (w : ℕ) (look : ℕ → ℕ → model.Look) (d k v : ℕ) → 0 < d →
    walk_from w look d opened k v ≡
    join (walk_from w look (d - 1) (look (suc k) v) (suc k) v)
    (walk_from w look (d - 1) (look (suc k) (v + 2 ^ (w - suc k))) (suc k) (v + 2 ^ (w - suc k)))
unfolding walk_from
walk_split w look zero k v h = absurd (omega arith)
walk_split w look (suc d) k v h = let e : suc d - 1 ≡ d = omega arith in rw e refl

same-walk : (T : model-case.Task) (d d' k k' v v' : ℕ) → d ≡ d' → k ≡ k' → v ≡ v' → walk_of T d k v ≡ walk_of T d' k' v'
same-walk T d d' k k' v v' a b c = rw (a, b, c) refl

-- ---- the lanes of a block

doubled : (a t u : ℕ) → u ≡ t * 2 → a * u ≡ 2 * (a * t)
doubled a t u e = rw e (omega arith)

module _ (b : block.Block) where
  abbrev T : model-case.Task
  T = task_of b

  n : ℕ
  n = b.task.now.problem.now.facts

  facts-is : T.facts ≡ b.task.now.problem.now.facts
  facts-is = task-facts b.task.now

  n≤w : b.task.now.problem.now.facts ≤ T.width
  n≤w = omega (arith, facts-is, facts-fit b.task.now)

  pub most : T.width ≤ 64
  most = omega (arith, task-width b.task.now, b.task.now.problem.now.sensible.word)

  has-case : (e lane : ℕ) → e ≤ b.levels → OnLevel lane e → HasCase T.width b.task.now.problem.now.facts b.own.k b.levels b.own.number n≤w b.few b.inside (block-of-mod T.width b.own.k b.own.number b.begins) e lane
  has-case e lane h o = lane-case T.width b.task.now.problem.now.facts b.own.k b.levels b.own.number n≤w b.few b.inside (block-of-mod T.width b.own.k b.own.number b.begins) e lane h o

  small : (e lane : ℕ) → e ≤ b.levels → OnLevel lane e → lane < 64
  small e lane h o = omega (arith, o.to, b.few, pow_mono {i = suc e} {j = 6} (omega (arith, b.few)))

  -- a lane has its case
  in-lane : (e lane : ℕ) → e ≤ b.levels → OnLevel lane e → block_of T.width b.task.now.problem.now.facts b.own.k b.own.number b.levels lane ≡ model-case.case_of T.width b.task.now.problem.now.facts (b.own.k + e) (case_at b e lane).number
  in-lane e lane h o = (has-case e lane h o).is

  pub begins-at : (e lane : ℕ) → e ≤ b.levels → OnLevel lane e → (case_at b e lane).number % 2 ^ (T.width - (b.own.k + e)) ≡ 0
  begins-at e lane h o = mod-of-block T.width (b.own.k + e) (case_at b e lane).number (has-case e lane h o).block

  pub room-at : (e lane : ℕ) → e ≤ b.levels → OnLevel lane e → (case_at b e lane).number + 2 ^ (T.width - (b.own.k + e)) ≤ 2 ^ T.width
  room-at e lane h o = number-room T.width b.own.k b.own.number e lane (2 ^ T.width) (omega (arith, b.inside, n≤w)) o b.numbers

  pub within-block : (e lane : ℕ) → e ≤ b.levels → OnLevel lane e → (case_at b e lane).number < b.own.number + 2 ^ (T.width - b.own.k)
  within-block e lane h o =
      omega (
        arith,
        number-room T.width b.own.k b.own.number e lane (b.own.number + 2 ^ (T.width - b.own.k)) (omega (arith, b.inside, n≤w)) o (omega arith),
        pow_pos (T.width - (b.own.k + e)),
      )

  -- a visit finds what the block says of the lane
  look-is : (e lane : ℕ) → e ≤ b.levels → OnLevel lane e → look_at T (b.own.k + e) (case_at b e lane).number ≡ look_in b lane
  unfolding look_at
  look-is e lane h o =
      sym
      (b.looked lane (small e lane h o) ∙
      ap (λ (x : List Kleene). look_of (eval three x T.initial) (run three T.facts T.goal T.plan 0 x)) (in-lane e lane h o ∙ ap (λ (x : ℕ). model-case.case_of T.width x (b.own.k + e) (case_at b e lane).number) (sym facts-is)))

  walk-look : (e lane : ℕ) → e ≤ b.levels → OnLevel lane e → walk_at b e lane ≡ walk_from T.width (look_at T) (b.task.now.problem.now.facts - (b.own.k + e)) (look_in b lane) (b.own.k + e) (case_at b e lane).number
  walk-look e lane h o = ap (λ (x : model.Look). walk_from T.width (look_at T) (b.task.now.problem.now.facts - (b.own.k + e)) x (b.own.k + e) (case_at b e lane).number) (look-is e lane h o)

  pub lane-closed : (e lane : ℕ) → e ≤ b.levels → OnLevel lane e → (κ : model.Kind) → look_in b lane ≡ model.closed κ → walk_at b e lane ≡ covered (model.line κ (b.own.k + e) (case_at b e lane).number ∷ []) 1
  lane-closed e lane h o κ i = walk-look e lane h o ∙ rw (i, walk-closed) refl

  pub lane-fails : (e lane : ℕ) → e ≤ b.levels → OnLevel lane e → look_in b lane ≡ opened → b.own.k + e ≡ b.task.now.problem.now.facts → walk_at b e lane ≡ failed (case_at b e lane).number 1
  lane-fails e lane h o i z = let d : b.task.now.problem.now.facts - (b.own.k + e) ≡ 0 = omega arith in walk-look e lane h o ∙ rw (i, d, walk-failing) refl

  pub lane-splits : (e lane : ℕ) → e < b.levels → OnLevel lane e → look_in b lane ≡ opened → walk_at b e lane ≡ join (walk_at b (suc e) (2 * lane)) (walk_at b (suc e) (2 * lane + 1))
  lane-splits e lane h o i =
      let l : b.own.k + e < T.width = omega (arith, b.inside, n≤w) in
      let s : suc (b.own.k + e) ≡ b.own.k + suc e = omega arith in
      let d : b.task.now.problem.now.facts - (b.own.k + e) - 1 ≡ b.task.now.problem.now.facts - (b.own.k + suc e) = omega arith in
      walk-look e lane (omega arith) o ∙
      ap (λ (x : model.Look). walk_from T.width (look_at T) (b.task.now.problem.now.facts - (b.own.k + e)) x (b.own.k + e) (case_at b e lane).number) i ∙
      walk_split T.width (look_at T) (b.task.now.problem.now.facts - (b.own.k + e)) (b.own.k + e) (case_at b e lane).number (omega (arith, b.inside)) ∙
      ap (λ (x : Walked). join x (walk_of T (b.task.now.problem.now.facts - (b.own.k + e) - 1) (suc (b.own.k + e)) ((case_at b e lane).number + 2 ^ (T.width - suc (b.own.k + e)))))
      (same-walk T _ _ _ _ _ _ d s (sym (number-no T.width b.own.k b.own.number e lane l))) ∙
      ap (join (walk_at b (suc e) (2 * lane))) (same-walk T _ _ _ _ _ _ d s (sym (number-yes T.width b.own.k b.own.number e lane l o.from)))

  pub some-visits : (e lane : ℕ) → 1 ≤ visits (walk_at b e lane)
  some-visits e lane = visits-walk T.width (look_at T) (b.task.now.problem.now.facts - (b.own.k + e)) (look_at T (b.own.k + e) (case_at b e lane).number) (b.own.k + e) (case_at b e lane).number

  -- ---- what comes after a lane and all below it

  pub coming : ℕ → ℕ → Walked
  coming zero lane = nothing
  coming (suc e) lane = cond (eqb (lane % 2) 0) (and_then (walk_at b (suc e) (lane + 1)) (coming e (lane / 2))) (coming e (lane / 2))

  coming-none : (lane : ℕ) → coming 0 lane ≡ nothing
  unfolding coming
  coming-none lane = refl

  coming-no : (e lane m : ℕ) → lane ≡ 2 * m → coming (suc e) lane ≡ and_then (walk_at b (suc e) (lane + 1)) (coming e m)
  unfolding coming
  coming-no e lane m h = let z : lane % 2 ≡ 0 = omega arith in let d : lane / 2 ≡ m = omega arith in rw (eq-eqb (lane % 2) 0 z, d) refl

  coming-yes : (e lane m : ℕ) → lane ≡ 2 * m + 1 → coming (suc e) lane ≡ coming e m
  unfolding coming
  coming-yes e lane m h =
      let z : lane % 2 ≡ 0 → ⊥ = λ (y : lane % 2 ≡ 0). omega arith in let d : lane / 2 ≡ m = omega arith in rw (ne_eqb (lane % 2) 0 z, d) refl

  pub record Turns (e lane next : ℕ) : Type 0 where
    pub level : ℕ
    pub within : level ≤ e
    pub on : OnLevel next level
    pub past : 1 < next
    pub is : coming e lane ≡ and_then (walk_at b level next) (coming level next)

  abbrev pub ComesAfter : ℕ → ℕ → ℕ → Type 0
  ComesAfter e lane next = ((next ≡ 1) × (coming e lane ≡ nothing)) ⊎ Turns e lane next

  one-of : (a t : ℕ) → 0 < t → a * t ≡ 1 → a ≡ 1
  one-of a zero h e = absurd (omega arith)
  one-of zero (suc t) h e = absurd (omega arith)
  one-of (suc a) (suc t) h e = omega arith

  pub comes-after : (e lane next up : ℕ) → OnLevel lane e → lane + 1 ≡ next * 2 ^ up → next % 2 ≡ 1 → ComesAfter e lane next
  comes-after zero lane next zero o i odd = absurd (omega (arith, o.from, o.to))
  comes-after zero lane next (suc up) o i odd =
      let h : next * 2 ^ up ≡ 1 = omega (arith, o.from, o.to, doubled next (2 ^ up) (2 ^ suc up) (pow-suc 2 up)) in
      inl (one-of next (2 ^ up) (pow_pos up) h, coming-none lane)
  comes-after (suc e) lane next zero o i odd =
      let x : lane + 1 ≡ next = omega arith in
      let m = lane / 2 in
      let z : lane ≡ 2 * m = omega arith in
      let y : next ≡ 2 * m + 1 = omega arith in
      let on : OnLevel next (suc e) = record { from = omega (arith, o.from); to = omega (arith, o.to, pow-suc 2 e, pow-suc 2 (suc e)) } in
      inr
      (record {
        level = suc e;
        within = omega arith;
        on = on;
        past = omega (arith, on.from, pow-suc 2 e, pow_pos e);
        is = coming-no e lane m z ∙ ap (λ (t : ℕ). and_then (walk_at b (suc e) t) (coming e m)) x ∙ ap (and_then (walk_at b (suc e) next)) (sym (coming-yes e next m y));
      })
  comes-after (suc e) lane next (suc up) o i odd =
      let d = doubled next (2 ^ up) (2 ^ suc up) (pow-suc 2 up) in
      let m = lane / 2 in
      let z : lane ≡ 2 * m + 1 = omega arith in
      let below : OnLevel m e = half-level lane m e o (omega arith) (omega arith) in
      elim (comes-after e m next up below (omega arith) odd) [
        | inl (p, q) ↦ inl (p, coming-yes e lane m z ∙ q)
        | inr t ↦ inr (record { level = t.level; within = omega (arith, t.within); on = t.on; past = t.past; is = coming-yes e lane m z ∙ t.is })
      ]

  -- ---- the number of a lane's case, as the code computes it

  module _ (lane l s : ℕ) (o : OnLevel lane l) (inside : lane < 2 * 2 ^ b.levels) (S : s ≡ 2 ^ ((limits_of b).width - (b.own.k + b.levels))) where
    abbrev computed : ℕ
    computed = (lane * 2 ^ (b.levels - l) % 2 ^ 64 - 1 * 2 ^ b.levels % 2 ^ 64) * s

    within : l ≤ b.levels
    within = level-within lane l b.levels o inside

    pub computed-ge : 1 * 2 ^ b.levels % 2 ^ 64 ≤ lane * 2 ^ (b.levels - l) % 2 ^ 64
    computed-ge = rw (below-fits l lane b.levels within o b.few, edge-fits l lane b.levels within o b.few) (below_ge l lane b.levels within o)

    computed-is : (lane * 2 ^ (b.levels - l) % 2 ^ 64 - 1 * 2 ^ b.levels % 2 ^ 64) * s ≡ (lane - 2 ^ l) * 2 ^ (T.width - (b.own.k + l))
    computed-is =
        let S' : s ≡ 2 ^ (T.width - (b.own.k + b.levels)) = S ∙ ap (λ (x : ℕ). 2 ^ (x - (b.own.k + b.levels))) (sym (task-width b.task.now)) in
        rw (below-fits l lane b.levels within o b.few, edge-fits l lane b.levels within o b.few, S')
        (below-number l lane b.levels within o T.width b.own.k (omega (arith, b.inside, n≤w)))

    pub case-number : b.own.number + (lane * 2 ^ (b.levels - l) % 2 ^ 64 - 1 * 2 ^ b.levels % 2 ^ 64) * s ≡ (case_at b l lane).number
    case-number = ap (λ (x : ℕ). b.own.number + x) computed-is

    case-small : (case_at b l lane).number < 2 ^ 64
    case-small = omega (arith, room-at l lane within o, pow_pos (T.width - (b.own.k + l)), pow_mono {i = T.width} {j = 64} most)

    pub sum-fits : b.own.number + (lane * 2 ^ (b.levels - l) % 2 ^ 64 - 1 * 2 ^ b.levels % 2 ^ 64) * s < 2 ^ 64
    sum-fits = rw case-number case-small

    pub product-fits : (lane * 2 ^ (b.levels - l) % 2 ^ 64 - 1 * 2 ^ b.levels % 2 ^ 64) * s < 2 ^ 64
    product-fits = part _ _ sum-fits
      where
        part : (x y : ℕ) → x + y < 2 ^ 64 → y < 2 ^ 64
        part x y h = omega arith

    pub case-is : (e : ℕ) → OnLevel lane e → (case : Case) → case ≡ record { k = b.own.k + l; number = b.own.number + (lane * 2 ^ (b.levels - l) % 2 ^ 64 - 1 * 2 ^ b.levels % 2 ^ 64) * s } → case ≡ case_at b e lane
    case-is e p case c =
        c ∙ ap (λ (x : ℕ). record { k = b.own.k + l; number = x }) case-number ∙ ap (λ (x : ℕ). case_at b x lane) (one-level lane l e o p)

-- ---- a lane's walk, by what the code answers of it

module _ {L : Type 0} (puts : L → List Line → L → Type 0) (b : block.Block) where
  module _ (e lane : ℕ) (within : e ≤ b.levels) (on : OnLevel lane e) (g : ℕ) (old : L) where
    abbrev Here : Result done.Closed Stopped → L → Type 0
    Here r new = Walks puts (walk_at b e lane) g old r new

    one : 0 < g → g - (g - 1) ≡ 1
    one some = omega arith

    pub lane_closes :
        (kind : Kind) → kind_look (Some kind) ≡ look_in b lane → 0 < g → (case : Case) → case ≡ case_at b e lane → (new : L) → puts old (closed_line kind case ∷ []) new →
        Here (Ok (record { lines = 1; left = g - 1 })) new
    lane_closes kind i some case c new p =
        record {
          closed = closed_line kind case ∷ [];
          put = p;
          counted = (omega arith, refl, omega arith);
          is = rw (c, one some) (lane-closed b e lane within on _ (sym i));
        }

    pub lane_fails : look_in b lane ≡ opened → 0 < g → b.own.k + e ≡ b.task.now.problem.now.facts → puts old [] old → (case : Case) → case ≡ case_at b e lane → Here (Err (Failed case.number (g - 1))) old
    lane_fails i some z p case c = record { closed = []; put = p; counted = omega arith; is = rw (c, one some) (lane-fails b e lane within on i z) }

  -- ---- through the lanes

  -- The walk from the block's case, with g visits granted: so many lines were put and so many visits are left as it turns to a lane.
  pub record Going (g : ℕ) (old : L) (lane count left : ℕ) (now' : L) : Type 0 where
    pub level : ℕ
    pub within : level ≤ b.levels
    pub on : OnLevel lane level
    pub closed : List Line
    pub put : puts old closed now'
    pub few : left ≤ g
    pub counted : count ≡ length closed
    pub fewer : count ≤ g - left
    pub is : walk_at b 0 1 ≡ and_then (covered closed (g - left)) (and_then (walk_at b level lane) (coming b level lane))

  pub going-begins : (g : ℕ) (old : L) → puts old [] old → Going g old 1 0 g old
  going-begins g old p =
      let z : g - g ≡ 0 = omega arith in
      record {
        level = 0;
        within = omega arith;
        on = first-level;
        closed = [];
        put = p;
        few = omega arith;
        counted = refl;
        fewer = omega arith;
        is =
            sym (then-nothing (walk_at b 0 1)) ∙
            ap (and_then (walk_at b 0 1)) (sym (coming-none b 1)) ∙
            sym (nothing-then (and_then (walk_at b 0 1) (coming b 0 1))) ∙
            ap (λ (x : ℕ). and_then (covered [] x) (and_then (walk_at b 0 1) (coming b 0 1))) (sym z);
      }

  module _ (g : ℕ) (old : L) (lane count left : ℕ) (now' : L) (G : Going g old lane count left now') where
    pub going-small : lane < 64
    going-small = small b G.level lane G.within G.on

    pub going-splits : look_in b lane ≡ opened → lane < 2 ^ b.levels → 0 < left → Going g old (2 * lane) count (left - 1) now'
    going-splits i h some =
        let l : G.level < b.levels = inner (omega (arith, G.on.from)) in
        let a : g - left + 1 ≡ g - (left - 1) = omega (arith, G.few) in
        record {
          level = suc G.level;
          within = l;
          on = no-level lane G.level G.on;
          closed = G.closed;
          put = G.put;
          few = omega (arith, G.few);
          counted = G.counted;
          fewer = omega (arith, G.few, G.fewer);
          is =
              G.is ∙
              ap (λ (x : Walked). and_then (covered G.closed (g - left)) (and_then x (coming b G.level lane))) (lane-splits b G.level lane l G.on i) ∙
              then-split G.closed (g - left) (walk_at b (suc G.level) (2 * lane)) (walk_at b (suc G.level) (2 * lane + 1)) (coming b G.level lane) ∙
              ap (λ (x : ℕ). and_then (covered G.closed x) (and_then (walk_at b (suc G.level) (2 * lane)) (and_then (walk_at b (suc G.level) (2 * lane + 1)) (coming b G.level lane)))) a ∙
              ap (λ (x : Walked). and_then (covered G.closed (g - (left - 1))) (and_then (walk_at b (suc G.level) (2 * lane)) x)) (sym (coming-no b G.level (2 * lane) lane refl));
        }
      where
        inner : 2 ^ G.level < 2 ^ b.levels → G.level < b.levels
        inner h = elim (dec_le b.levels G.level) [ yes y ↦ absurd (omega (arith, pow_mono {i = b.levels} {j = G.level} y)) | no d ↦ omega arith ]

    pub going-out : left ≡ 0 → Walks puts (walk_at b 0 1) g old (Err OutOfVisits) now'
    going-out z =
        record {
          closed = G.closed;
          put = G.put;
          counted = tt;
          is = rw G.is (omega (arith, visits-then G.closed (g - left) (walk_at b G.level lane) (coming b G.level lane), some-visits b G.level lane));
        }

    module _ (more : (s t u : L) (ls ms : List Line) → puts s ls t → puts t ms u → puts s (ls ++ ms) u) where
      pub going-stops : (s : Stopped) (new : L) → Walks puts (walk_at b G.level lane) left now' (Err s) new → Walks puts (walk_at b 0 1) g old (Err s) new
      going-stops OutOfVisits new W =
          record {
            closed = G.closed ++ W.closed;
            put = more _ _ _ G.closed W.closed G.put W.put;
            counted = tt;
            is = rw G.is (omega (arith, G.few, W.is, visits-then G.closed (g - left) (walk_at b G.level lane) (coming b G.level lane)));
          }
      going-stops (Failed s rest) new W =
          let a : g - left + (left - rest) ≡ g - rest = omega (arith, G.few, W.counted) in
          record {
            closed = G.closed ++ W.closed;
            put = more _ _ _ G.closed W.closed G.put W.put;
            counted = omega (arith, G.few, W.counted);
            is =
                G.is ∙
                ap (λ (x : Walked). and_then (covered G.closed (g - left)) (and_then x (coming b G.level lane))) W.is ∙
                then-failed G.closed (g - left) s (left - rest) (coming b G.level lane) ∙
                ap (failed s) a;
          }

      module _ (c : done.Closed) (new : L) (W : Walks puts (walk_at b G.level lane) left now' (Ok c) new) where
        sum : g - left + (left - c.left) ≡ g - c.left
        sum = omega (arith, G.few, W.counted.0)

        so-far : walk_at b 0 1 ≡ and_then (covered (G.closed ++ W.closed) (g - c.left)) (coming b G.level lane)
        so-far =
            G.is ∙
            ap (λ (x : Walked). and_then (covered G.closed (g - left)) (and_then x (coming b G.level lane))) W.is ∙
            then-covered G.closed W.closed (g - left) (left - c.left) (coming b G.level lane) ∙
            ap (λ (x : ℕ). and_then (covered (G.closed ++ W.closed) x) (coming b G.level lane)) sum

        counts : count + c.lines ≡ length (G.closed ++ W.closed)
        counts = omega (arith, length-append G.closed W.closed, G.counted, W.counted.1)

        fewer : count + c.lines ≤ g - c.left
        fewer = omega (arith, G.few, G.fewer, W.counted.0, W.counted.2)

        pub closed-fewer : c.left < left
        closed-fewer = omega (arith, some-visits b G.level lane, ap visits W.is)

        -- nothing comes after it
        pub going-ends : coming b G.level lane ≡ nothing → Walks puts (walk_at b 0 1) g old (Ok (record { lines = count + c.lines; left = c.left })) new
        going-ends z =
            record {
              closed = G.closed ++ W.closed;
              put = more _ _ _ G.closed W.closed G.put W.put;
              counted = (omega (arith, G.few, W.counted.0), counts, fewer);
              is = so-far ∙ ap (and_then (covered (G.closed ++ W.closed) (g - c.left))) z ∙ then-nothing (covered (G.closed ++ W.closed) (g - c.left));
            }

        -- the next lane
        pub going-turns : (next : ℕ) → Turns b G.level lane next → Going g old next (count + c.lines) c.left new
        going-turns next N =
            record {
              level = N.level;
              within = omega (arith, N.within, G.within);
              on = N.on;
              closed = G.closed ++ W.closed;
              put = more _ _ _ G.closed W.closed G.put W.put;
              few = omega (arith, G.few, W.counted.0);
              counted = counts;
              fewer = fewer;
              is = so-far ∙ ap (and_then (covered (G.closed ++ W.closed) (g - c.left))) N.is;
            }

        pub going-on : (next : ℕ) → IsAfter lane next → (next ≡ 1 → ⊥) → Going g old next (count + c.lines) c.left new
        going-on next A h =
            elim (comes-after b G.level lane next A.up G.on A.is A.odd) [ inl (p, q) ↦ absurd (h p) | inr N ↦ going-turns next N ]

        pub going-done : (next : ℕ) → IsAfter lane next → next ≡ 1 → Walks puts (walk_at b 0 1) g old (Ok (record { lines = count + c.lines; left = c.left })) new
        going-done next A h =
            elim (comes-after b G.level lane next A.up G.on A.is A.odd) [ inl (p, q) ↦ going-ends q | inr N ↦ absurd (omega (arith, N.past)) ]

-- a lane that does not split into two of its block is closed, or at the edge
pub not-split : (r : Bool) {A : Type 0} (lane edge : ℕ) → IsTrue r ↔ (A × (lane < edge)) → r ≡ false → A → edge ≤ lane
not-split r lane edge i f a = elim (dec_le edge lane) [ yes y ↦ y | no d ↦ let t : r ≡ true = i.1 (a, omega arith) in absurd (cc) ]

pub edge-level : (lane e levels : ℕ) → OnLevel lane e → e ≤ levels → 2 ^ levels ≤ lane → e ≡ levels
edge-level lane e levels o h k = let m = level_le lane levels e k o.to in omega arith

pub few-facts : (b : block.Block) (e lane : ℕ) → e ≤ b.levels → (case : Case) → case ≡ case_at b e lane → case.k < 256
few-facts b e lane h case c = omega (arith, ap (λ (x : Case). x.k) c, b.inside, n≤w b, most b)

pub at-level :
    {L : Type 0} (puts : L → List Line → L → Type 0) (b : block.Block) (lane e g : ℕ) (old : L) (r : Result done.Closed Stopped) (new : L) → e ≡ b.levels →
    Walks puts (walk_at b b.levels lane) g old r new → Walks puts (walk_at b e lane) g old r new
at-level puts b lane e g old r new s W = subst (λ (x : ℕ). Walks puts (walk_at b x lane) g old r new) (sym s) W

pub does-split : (r : Bool) {P : Type 0} → IsTrue r ↔ P → r ≡ true → P
does-split r i t = i.0 t

-- ---- a look, and a case in a table

-- a look leaves the tables where they stand
pub looked-first : (t d : Tables) (facts : ℕ) → d.case ≡ t.case → AtFirst t facts → AtFirst d facts
looked-first t d facts e A =
    record { count = ap (λ (c : Cases). c.facts) e ∙ A.count; stands = λ j l. ap (λ (c : Cases). case_of c j) e ∙ A.stands j l }

in-table :
    (b : block.Block) (n : ℕ) (x : table.Case) (c : Case) → x.fixed ≡ c.k → SameCase (limits_of b).width c.number x.word → n ≡ b.task.now.problem.now.facts →
    values_of n x ≡ model-case.case_of (task_of b).width b.task.now.problem.now.facts c.k c.number
in-table b n x c f same e =
    rw (e, f, task-width b.task.now) (same b.task.now.problem.now.facts c.k (omega (arith, n≤w b, task-width b.task.now)))

-- ---- a block below, and the first one

pub own-fits : (b : block.Block) → b.own.number < 2 ^ (limits_of b).width
own-fits b =
    rw (← task-width b.task.now) (omega (arith, b.numbers, pow_pos ((task_of b).width - b.own.k)))

-- an open case at a block's edge begins a block of its own
module _ (b : block.Block) (lane : ℕ) (on : OnLevel lane b.levels) (case : Case) (c : case ≡ case_at b b.levels lane) where
  pub edge-k : case.k ≡ b.own.k + b.levels
  edge-k = ap (λ (x : Case). x.k) c

  edge-number : case.number ≡ (case_at b b.levels lane).number
  edge-number = ap (λ (x : Case). x.number) c

  pub edge-begins : case.number % 2 ^ ((task_of b).width - case.k) ≡ 0
  edge-begins = rw c (begins-at b b.levels lane (omega arith) on)

  pub edge-numbers : case.number + 2 ^ ((task_of b).width - case.k) ≤ 2 ^ (task_of b).width
  edge-numbers = rw c (room-at b b.levels lane (omega arith) on)

  -- the walk from its block's own case is the walk from it
  below-walk :
      (t : blocks.Task) (n f v : ℕ) → t ≡ b.task.now → n ≡ b.task.now.problem.now.facts → f ≡ case.k → v ≡ case.number →
      walk_of (values.task t) (n - (f + 0)) (f + 0) (v + (1 - 2 ^ 0) * 2 ^ ((values.task t).width - (f + 0))) ≡ walk_at b b.levels lane
  below-walk t n f v i m e h =
      ap (λ (x : blocks.Task). walk_of (values.task x) (n - (f + 0)) (f + 0) (v + (1 - 2 ^ 0) * 2 ^ ((values.task x).width - (f + 0)))) i ∙
      same-walk (task_of b) _ _ _ _ _ _ (omega (arith, m, e, edge-k)) (omega (arith, e, edge-k)) (omega (arith, h, edge-number))

  pub below-walks :
      {L : Type 0} (puts : L → List Line → L → Type 0) (t : blocks.Task) (n f v : ℕ) → t ≡ b.task.now → n ≡ b.task.now.problem.now.facts → f ≡ case.k → v ≡ case.number →
      (g : ℕ) (old : L) (r : Result done.Closed Stopped) (new : L) →
      Walks puts (walk_of (values.task t) (n - (f + 0)) (f + 0) (v + (1 - 2 ^ 0) * 2 ^ ((values.task t).width - (f + 0)))) g old r new →
      Walks puts (walk_at b b.levels lane) g old r new
  below-walks puts t n f v i m e h g old r new W = subst (λ (x : Walked). Walks puts x g old r new) (below-walk t n f v i m e h) W

  -- ---- the tables on the way down, and back

  pub here-fits : case.number < 2 ^ (limits_of b).width
  here-fits = rw (← task-width b.task.now) (omega (arith, edge-numbers, pow_pos ((task_of b).width - case.k)))

  module _ (above here : table.Case) (f : above.fixed ≡ b.own.k)
      (r : above.word ≡ raised (limits_of b).width b.own.number) (same : SameCase (limits_of b).width b.own.number above.word) (f' : here.fixed ≡ case.k)
      (r' : here.word ≡ raised (limits_of b).width case.number) (same' : SameCase (limits_of b).width case.number here.word) where
    abbrev w : ℕ
    w = (task_of b).width

    -- both fix the block's first facts alike
    alike : (f : ℕ) → f < b.own.k → model-case.bit 64 above.word f ≡ model-case.bit 64 here.word f
    alike f l =
        let within : f < w = omega (arith, b.inside, n≤w b) in
        rw (r, r', ← task-width b.task.now)
        (raised-bit w (most b) b.own.number f within ∙
        sym
        (agree w b.own.k b.own.number case.number f (omega (arith, b.inside, n≤w b)) (block-of-mod w b.own.k b.own.number b.begins) (omega (arith, edge-number))
        (rw edge-number (within-block b b.levels lane (omega arith) on)) l) ∙
        sym (raised-bit w (most b) case.number f within))

    pub going-down : Common above here b.own.k
    going-down = record { first = omega (arith, f); second = omega (arith, f', edge-k); alike = alike }

    pub coming-back : Common here above b.own.k
    coming-back = record { first = omega (arith, f', edge-k); second = omega (arith, f); alike = λ g l. sym (alike g l) }

    abbrev here-case : List Kleene
    here-case = model-case.case_of w b.task.now.problem.now.facts case.k case.number

    above-is : (n : ℕ) → n ≡ b.task.now.problem.now.facts → values_of n above ≡ model-case.case_of w b.task.now.problem.now.facts b.own.k b.own.number
    above-is n e = in-table b n above b.own f same e

    pub stands-below : (t d : Tables) → At t b → facts_of d ≡ facts_of t → (StandsAt t (values_of (facts_of t) above) → StandsAt d (values_of (facts_of t) here)) → StandsAt d here-case
    stands-below t d A e go = λ j l. go (λ j l. A.stands j l ∙ sym (above-is (facts_of t) A.facts)) j l ∙ in-table b (facts_of t) here case f' same' A.facts

    pub stands-again :
        (t d : Tables) → facts_of t ≡ b.task.now.problem.now.facts → StandsAt t here-case → facts_of d ≡ facts_of t →
        (StandsAt t (values_of (facts_of t) here) → StandsAt d (values_of (facts_of t) above)) → At d b
    stands-again t d n A e go =
        record {
          facts = e ∙ n;
          stands = λ j l. go (λ j l. A j l ∙ sym (in-table b (facts_of t) here case f' same' n)) j l ∙ above-is (facts_of t) n;
        }

    -- the block below was looked at
    pub below-looked :
        (t : Tables) (levels : ℕ) (looks : Looks) → StandsAt t here-case → LooksAt (task_of b) (block_at t case.k levels) looks →
        LooksAt (task_of b) (block_of w b.task.now.problem.now.facts case.k case.number levels) looks
    below-looked t levels looks A L = looks-same (task_of b) _ _ looks (λ j l. ap (λ (x : List Kleene). block_case x case.k levels j) (A j l)) L

-- the first block fixes no fact
module _ (t : blocks.Task) where
  -- the walk from the case that fixes no fact is the walk of the task
  pub first-walk :
      walk_of (values.task t) (t.problem.now.facts - (0 + 0)) (0 + 0) (0 + (1 - 2 ^ 0) * 2 ^ ((values.task t).width - (0 + 0))) ≡ walked (values.task t)
  unfolding walked walk
  first-walk = same-walk (values.task t) _ _ _ _ _ _ (omega (arith, task-facts t)) (omega arith) (omega arith)

  -- the tables that stand at it, and what was found of the first block
  module _ (tables : Tables) (A : AtFirst tables t.problem.now.facts) where
    stands-first : StandsAt tables (model-case.case_of (values.task t).width t.problem.now.facts 0 0)
    stands-first j l = A.stands j l ∙ sym (case-first (values.task t).width t.problem.now.facts)

    pub first-looked :
        (levels : ℕ) (looks : Looks) → levels ≡ first_levels t.problem.now.facts → LooksAt (values.task t) (block_at tables 0 levels) looks →
        LooksAt (values.task t) (block_of (values.task t).width t.problem.now.facts 0 0 (first_levels t.problem.now.facts)) looks
    first-looked levels looks e L =
        looks-same (values.task t) _ _ looks (λ j l. rw e (ap (λ (x : List Kleene). block_case x 0 (first_levels t.problem.now.facts) j) (stands-first j l))) L

  module _ (tables : Tables) (b : block.Block) (f : b.own.k ≡ 0) (v : b.own.number ≡ 0) (i : b.task.now ≡ t) where
    pub at-first : AtFirst tables t.problem.now.facts → At tables b
    at-first A = record { facts = rw i A.count; stands = rw (i, f, v) (stands-first tables A) }

    pub first-again : At tables b → AtFirst tables t.problem.now.facts
    first-again A =
        record {
          count = A.facts ∙ ap (λ (x : blocks.Task). x.problem.now.facts) i;
          stands = λ j l. A.stands j l ∙ rw (i, f, v) (case-first (values.task t).width t.problem.now.facts);
        }
