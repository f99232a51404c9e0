-- Runs in lanes, a step at a time: what is left of them, and in which lanes they reach the goal. Assumes nothing.
use Rattle.std.proofs.Common.{◌≡◌, refl, sym, ap, ◌∙◌, subst, Bool, true, false, List, [], ◌∷◌, ℕ, zero, suc, ◌+◌, ◌-◌, ◌≤◌, ◌<◌, min, length, drop, arith, add-one, drop-cons, bit_and}
use native.Mathlib.Decide.{ℕ_discrete}
use Rattle.model.specs.declared.Part.{Part}
use Rattle.model.specs.Answers.{part}
use Rattle.model.specs.Kleene.{Kleene, No, Unknown, Yes, is_yes, three}
use Rattle.model.specs.Formula.{Formula, eval}
use Rattle.model.specs.Action.{Action, applicable, step}
use Rattle.model.specs.Run.{part_of, Stop, reached, missed, blocked, at_end, goes_on, holds_in, run}
use Rattle.model.specs.Run as Run
use Rattle.model.specs.Case.{flag, Task}
use Rattle.model.specs.Walk as Walk
use Rattle.model.specs.ProblemBytes.{action_at}
use Rattle.model.specs.Planes.{lane_bit, some_bit}
use Rattle.model.proofs.Laws.Planes.{bit-and, bit-zero, bit-flip, bit-small, low_bit}
use Rattle.cases.specs.declared.cases.Cases.{Cases}
use Rattle.cases.specs.declared.value.Value.{Value}
use Rattle.cases.specs.Cases.{case_of, value_at}
use Rattle.cases.proofs.Lanes.{lanes-of}
use Rattle.step.specs.declared.action.Hindrance.{Hindrance}
use Rattle.step.specs.Actions.{Hinders, GoesOn, IsHindered}
use Rattle.step.proofs.Conflicts.{sure-yes}
use Rattle.runs.specs.declared.lanes.Looks.{Looks}
use Rattle.runs.specs.Looks.{run_from, reached_bit, Reaches, GoalReached, Running, look_bits, LooksAt, NotEmpty, looks_of}

-- ---- bits

end-bit : (b : Bool) → reached_bit (at_end b) ≡ flag b
end-bit true = refl
end-bit false = refl

goes-bit : (b : Bool) (o : Run.Outcome) (s : Stop) → reached_bit (goes_on b o s) ≡ min (flag b) (reached_bit o)
unfolding goes_on
goes-bit true reached s = refl
goes-bit true missed s = refl
goes-bit true (blocked p) s = refl
goes-bit false reached s = refl
goes-bit false missed s = refl
goes-bit false (blocked p) s = refl

-- a step in a lane
turn-bit :
    (a a' : ℕ) (b : Bool) (o o' : Run.Outcome) (s : Stop) → o ≡ goes_on b o' s → a' ≡ min a (flag b) → min a (reached_bit o) ≡ min a' (reached_bit o')
turn-bit a a' b o o' s e f = rw (e, goes-bit b o' s, f) (omega arith)

-- a bit that is not one
pub zero_bit : (j x : ℕ) → (lane_bit j x ≡ 1 → ⊥) → lane_bit j x ≡ 0
zero_bit j x h = elim (ℕ_discrete (lane_bit j x) 0) [ yes e ↦ e | no e ↦ absurd (h (omega (arith, bit-small j x))) ]

-- ---- what is left of a run

-- where it is blocked if step i is not applicable
abbrev pub stop_at : Task → ℕ → List Kleene → Stop
stop_at T i v = record { step = i; part = part_of three T.facts (action_at T.plan i) v }

abbrev pub after : Task → ℕ → List Kleene → List Kleene
after T i v = step three T.facts (action_at T.plan i) v

module _ (T : Task) (i : ℕ) (v : List Kleene) where
  pub run-turn :
      i < length T.plan → run_from T i v ≡ goes_on (applicable three T.facts (action_at T.plan i) v) (run_from T (suc i) (after T i v)) (stop_at T i v)
  unfolding run action_at
  run-turn l = ap (λ (w : List Action). run three T.facts T.goal w i v) (drop-cons T.plan i _ l)

  -- every step was obeyed: the goal decides
  pub run-end : length T.plan ≤ i → run_from T i v ≡ at_end (holds_in three v T.goal)
  unfolding run
  run-end h = ap (λ (w : List Action). run three T.facts T.goal w i v) (all T.plan i h)
    where
      all : (plan : List Action) (n : ℕ) → length plan ≤ n → drop n plan ≡ []
      all [] zero h = refl
      all [] (suc n) h = refl
      all (a ∷ plan) zero h = absurd (omega arith)
      all (a ∷ plan) (suc n) h = all plan n (omega arith)

-- ---- runs in lanes

module _ (T : Task) (lanes : ℕ) (case : ℕ → List Kleene) where
  pub running-begins : Running T lanes case 0 lanes case
  running-begins = record { few = omega arith; is = λ j l. refl }

  -- no lane is asked
  pub reaches-none : lanes ≡ 0 → Reaches T lanes case 0
  reaches-none e j l = bit-zero j ∙ rw (e, bit-zero j) (omega arith)

  module _ (i alive : ℕ) where
    module _ (c : Cases) (R : Running T lanes case i alive (case_of c)) (more : i < length T.plan) (same : c.facts ≡ T.facts)
        (a : Action) (is : a ≡ action_at T.plan i) (d : Cases) where
      turned :
          (left : ℕ) → ((j : ℕ) → j < 64 → lane_bit j left ≡ min (lane_bit j alive) (flag (applicable three c.facts a (case_of c j)))) → (j : ℕ) → j < 64 →
          min (lane_bit j lanes) (reached_bit (run_from T 0 (case j))) ≡ min (lane_bit j left) (reached_bit (run_from T (suc i) (after T i (case_of c j))))
      turned left bits j l =
          R.is j l ∙ turn-bit (lane_bit j alive) (lane_bit j left) _ _ _ _ (run-turn T i (case_of c j) more) (bits j l ∙ rw (same, is) refl)

      pub running-next : (left : ℕ) → GoesOn c a alive d left → Running T lanes case (i + 1) left (case_of d)
      running-next left G =
          record {
            few = omega arith;
            is =
                λ j l.
                let e : case_of d j ≡ after T i (case_of c j) = G.cases j l ∙ rw (same, is) refl in
                rw (add-one i, e) (turned left G.bits j l);
          }

      -- no lane goes on
      pub running-stops : (h : Hindrance) → IsHindered c a alive d h → Reaches T lanes case 0
      running-stops h H j l = bit-zero j ∙ sym (turned 0 (λ j l. bit-zero j ∙ sym (H.none j l)) j l ∙ rw (bit-zero j) (omega arith))

    -- every step was obeyed
    pub running-ends : (now' : ℕ → List Kleene) → Running T lanes case i alive now' → length T.plan ≤ i → (r : ℕ) → GoalReached T.goal now' alive r → Reaches T lanes case r
    running-ends now' R h r g j l =
        g j l ∙ sym (R.is j l ∙ ap (λ (o : Run.Outcome). min (lane_bit j alive) (reached_bit o)) (run-end T i (now' j) h) ∙ ap (min (lane_bit j alive)) (end-bit _))

-- ---- the run of one case, as lane 0 goes on

-- after i steps the run from v is what is left of it from w
pub record Following (T : Task) (v : List Kleene) (i : ℕ) (w : List Kleene) : Type 0 where
  pub few : i ≤ length T.plan
  pub is : run_from T 0 v ≡ run_from T i w

-- lane 0 alone is asked: it goes on exactly if the action is applicable there
goes : (lanes : ℕ) (b : Bool) → lanes ≤ 1 → (lanes ≡ 0 → ⊥) → lane_bit 0 lanes ≡ min (lane_bit 0 1) (flag b) → b ≡ true
goes lanes true l n e = refl
goes lanes false l n e =
    let k : lanes ≡ 1 = omega arith in
    absurd (omega (arith, rw k at e, low_bit 1))

stops : (b : Bool) → min (lane_bit 0 1) (flag b) ≡ 0 → b ≡ false
stops true e = absurd (omega (arith, e, low_bit 1))
stops false e = refl

module _ (T : Task) (v : List Kleene) where
  pub following-begins : Following T v 0 v
  following-begins = record { few = omega arith; is = refl }

  module _ (i : ℕ) (c : Cases) (F : Following T v i (case_of c 0)) where
    module _ (more : i < length T.plan) (same : c.facts ≡ T.facts) (a : Action) (is : a ≡ action_at T.plan i) (d : Cases) where
      pub following-next : (left : ℕ) → GoesOn c a 1 d left → Following T v (i + 1) (case_of d 0)
      unfolding goes_on
      following-next left G =
          let zero : 0 < 64 = omega arith in
          let so : applicable three T.facts (action_at T.plan i) (case_of c 0) ≡ true = rw (← same, ← is) (goes left _ G.among G.some (G.bits 0 zero)) in
          let e : case_of d 0 ≡ after T i (case_of c 0) = G.cases 0 zero ∙ rw (same, is) refl in
          record { few = omega arith; is = rw (add-one i, e) (F.is ∙ run-turn T i (case_of c 0) more ∙ rw so refl) }

      -- what hinders it is told
      pub following-stops :
          (h : Hindrance) → IsHindered c a 1 d h → (p : Part) → (Hinders d.facts a (case_of d 0) h → part p ≡ part_of three d.facts a (case_of d 0)) →
          blocked (record { step = i; part = part p }) ≡ run_from T 0 v
      unfolding goes_on
      following-stops h H p tells =
          let zero : 0 < 64 = omega arith in
          let no : applicable three T.facts (action_at T.plan i) (case_of c 0) ≡ false = rw (← same, ← is) (stops _ (H.none 0 zero)) in
          let told = subst (λ (e : Cases). Hinders e.facts a (case_of e 0) h → part p ≡ part_of three e.facts a (case_of e 0)) H.kept tells in
          let k : part p ≡ part_of three T.facts (action_at T.plan i) (case_of c 0) = rw (← same, ← is) (told (H.hinders refl)) in
          rw (F.is ∙ run-turn T i (case_of c 0) more, no, k) refl

    -- every step was obeyed
    pub following-ends : length T.plan ≤ i → (b : Bool) → b ≡ holds_in three (case_of c 0) T.goal → at_end b ≡ run_from T 0 v
    following-ends h b e = rw e (sym (F.is ∙ run-end T i (case_of c 0) h))

-- ---- the goal

module _ (goal : Formula) (c : Cases) (v : Value) (x : (j : ℕ) → j < 64 → value_at v j ≡ eval three (case_of c j) goal) where
  pub goal-reached : (alive : ℕ) → GoalReached goal (case_of c) alive (bit_and alive v.sure)
  goal-reached alive j l = bit-and j alive v.sure ∙ ap (min (lane_bit j alive)) (sure-yes v j l ∙ ap (λ (t : Kleene). flag (is_yes t)) (x j l))

-- ---- a look

look_is : (t : Kleene) (o : Run.Outcome) (a b : ℕ) → a ≡ 1 - some_bit t → b ≡ min (some_bit t) (reached_bit o) → look_bits a b ≡ Walk.look_of t o
look_is No o a b e f = rw e
look_is Unknown reached a b e f = rw (e, f)
look_is Unknown missed a b e f = rw (e, f)
look_is Unknown (blocked p) a b e f = rw (e, f)
look_is Yes reached a b e f = rw (e, f)
look_is Yes missed a b e f = rw (e, f)
look_is Yes (blocked p) a b e f = rw (e, f)

-- the lanes whose case is not empty
pub some-lanes :
    (φ : Formula) (case : ℕ → List Kleene) (v : Value) → ((j : ℕ) → j < 64 → value_at v j ≡ eval three (case j) φ) → NotEmpty φ case v.some
some-lanes φ case v x j l = ((lanes-of v.some v.sure v.consistent).lane j l).is_some ∙ ap some_bit (x j l)

-- and those of them whose run reaches the goal
pub looks-at :
    (T : Task) (case : ℕ → List Kleene) (some : ℕ) → NotEmpty T.initial case some → (r : ℕ) → Reaches T some case r → LooksAt T case (looks_of some r)
looks-at T case some x r R j l =
    let o = run three T.facts T.goal T.plan 0 (case j) in
    look_is (eval three (case j) T.initial) o _ _
    (bit-flip j some l ∙ ap (λ (w : ℕ). 1 - w) (x j l))
    (R j l ∙ ap (λ (w : ℕ). min w (reached_bit o)) (x j l))

-- what a visit finds of the same cases is the same
pub looks-same : (T : Task) (case case' : ℕ → List Kleene) (r : Looks) → ((j : ℕ) → j < 64 → case j ≡ case' j) → LooksAt T case r → LooksAt T case' r
looks-same T case case' r e L j l =
    L j l ∙ ap (λ (x : List Kleene). Walk.look_of (eval three x T.initial) (run three T.facts T.goal T.plan 0 x)) (e j l)
