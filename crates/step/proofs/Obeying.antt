-- One action: it is obeyed in the lanes that go on. Assumes nothing.
use Rattle.std.proofs.Common.{◌≡◌, refl, sym, ap, ◌∙◌, ℕ, ◌≤◌, ◌<◌, min, bit_and, arith}
use Rattle.std.proofs.lemmas.Nat.{and_le_l}
use Rattle.model.specs.{Kleene.Kleene, Kleene.is_yes, Kleene.three, Formula.eval, Action.Action, Action.every, Action.exclusive, Action.applicable, Action.step, Run.holds_in}
use Rattle.model.specs.{Case.flag, Planes.lane_bit}
use Rattle.model.proofs.Laws.Planes.{low_bit, bit-and, bit-zero, bit-small}
use Rattle.cases.specs.{declared.value.Value.Value, declared.cases.Cases.Cases, Cases.case_of, Cases.value_at}
use Rattle.step.specs.{declared.conditions.Conditions.Conditions, declared.action.Hindrance.Hindrance, declared.action.Hindrance.TheVariants.Precondition, declared.action.Hindrance.TheVariants.Conflict}
use Rattle.step.specs.{Conditions.Hold, Conditions.no_conflict, Conditions.LeftOfAny, Conditions.LeftOut, Conditions.AllLeftOut, Conditions.LeavesNone, Actions.applicable_bit, Actions.Hinders, Actions.GoesOn, Actions.IsHindered}
use Rattle.fields.specs.ActionBytes.{Rising}
use Rattle.step.proofs.Conflicts.{sure-yes, flag-and, flag_true, flag-false, every-wider, lowest-wider}

-- lane 0 alone
pub lane-0 : (alive x : ℕ) → alive ≡ 1 → lane_bit 0 (bit_and alive x) ≡ lane_bit 0 x
lane-0 alive x e = bit-and 0 alive x ∙ rw (e, low_bit 1) (omega (arith, bit-small 0 x))

module _ (c : Cases) (a : Action) (alive : ℕ) (v : Value) (x : (j : ℕ) → j < 64 → value_at v j ≡ eval three (case_of c j) a.precondition) where
  abbrev met : ℕ
  met = bit_and alive v.sure

  holds-bit : (j : ℕ) → j < 64 → lane_bit j v.sure ≡ flag (holds_in three (case_of c j) a.precondition)
  holds-bit j l = sure-yes v j l ∙ ap (λ (t : Kleene). flag (is_yes t)) (x j l)

  met-bit : (j : ℕ) → j < 64 → lane_bit j met ≡ min (lane_bit j alive) (flag (holds_in three (case_of c j) a.precondition))
  met-bit j l = bit-and j alive v.sure ∙ ap (min (lane_bit j alive)) (holds-bit j l)

  applicable-bit : (j : ℕ) → j < 64 → applicable_bit c a alive j ≡ min (lane_bit j met) (no_conflict c.facts c a j)
  unfolding applicable
  applicable-bit j l =
      rw (flag-and (holds_in three (case_of c j) a.precondition) (every c.facts (exclusive three a (case_of c j))), met-bit j l) (omega arith)

  -- no lane meets the precondition
  pub unmet-hinders : (facts : ℕ) → met ≡ 0 → alive ≡ 1 → Hinders facts a (case_of c 0) Precondition
  unmet-hinders facts e one =
      flag-false _ (sym (holds-bit 0 (omega arith)) ∙ sym (lane-0 alive v.sure one) ∙ ap (lane_bit 0) e ∙ bit-zero 0)

  pub obeys-none : met ≡ 0 → IsHindered c a alive c Precondition
  obeys-none e = record { kept = refl; none = λ j l. applicable-bit j l ∙ rw (e, bit-zero j) (omega arith); hinders = unmet-hinders c.facts e }

  -- some do; the action is over so many facts
  module _ (some : 0 < met) (facts : ℕ) where
    met-alone : alive ≡ 1 → met ≡ 1
    met-alone one = omega (arith, and_le_l alive v.sure)

    met-first : alive ≡ 1 → lane_bit 0 met ≡ 1
    met-first one = ap (lane_bit 0) (met-alone one) ∙ low_bit 1

    -- all of them are in conflict
    pub left-hinders : (h : Hindrance) → LeavesNone facts c a met h → alive ≡ 1 → Hinders facts a (case_of c 0) h
    left-hinders Precondition W one = absurd W
    left-hinders (Conflict f) W one =
        let bit : lane_bit 0 v.sure ≡ 1 = sym (lane-0 alive v.sure one) ∙ met-first one in
        (flag_true _ (λ z. omega (arith, bit, z, holds-bit 0 (omega arith))), W.lowest (met-alone one))

  -- over the facts of the cases
  pub obeys-left : 0 < met → (h : Hindrance) → LeavesNone c.facts c a met h → IsHindered c a alive c h
  obeys-left some Precondition W = absurd W
  obeys-left some (Conflict f) W =
      record { kept = refl; none = λ j l. applicable-bit j l ∙ W.bits j l; hinders = left-hinders some c.facts (Conflict f) W }

  pub obeys-some :
      (lanes : ℕ) (k : Conditions) (d : Cases) → LeftOut c a met k lanes →
      ((b : Action) → Hold k b.effects (case_of c) → (j : ℕ) → j < 64 → case_of d j ≡ step three c.facts b (case_of c j)) → GoesOn c a alive d lanes
  obeys-some lanes k d W S =
      record {
        among = omega (arith, W.among, and_le_l alive v.sure);
        some = W.some;
        bits = λ j l. W.bits j l ∙ sym (applicable-bit j l);
        cases = S a W.hold;
      }

  -- over no more facts than the cases have: the others, which no entry names, are in no conflict
  module _ (some : 0 < met) (facts : ℕ) (few : facts ≤ c.facts) (ok : Rising facts 0 a.effects) where
    same-lanes : (j : ℕ) → min (lane_bit j met) (no_conflict facts c a j) ≡ min (lane_bit j met) (no_conflict c.facts c a j)
    same-lanes j = ap (λ b. min (lane_bit j met) (flag b)) (sym (every-wider facts c.facts few a ok (case_of c j)))

    same-conflict : (f : ℕ) → AllLeftOut facts c a met f → AllLeftOut c.facts c a met f
    same-conflict f W =
        record {
          bits = λ j l. sym (same-lanes j) ∙ W.bits j l;
          lowest =
              λ one.
              let found : no_conflict facts c a 0 ≡ 0 = omega (arith, W.bits 0 (omega arith), ap (lane_bit 0) one ∙ low_bit 1) in
              W.lowest one ∙ lowest-wider facts c.facts few a ok (case_of c 0) (flag-false _ found);
        }

    pub obeys-left-of-fewer : (h : Hindrance) → LeavesNone facts c a met h → IsHindered c a alive c h
    obeys-left-of-fewer Precondition W = absurd W
    obeys-left-of-fewer (Conflict f) W = obeys-left some (Conflict f) (same-conflict f W)

    pub obeys-some-of-fewer :
        (lanes : ℕ) (k : Conditions) (d : Cases) → LeftOfAny facts c a met k lanes →
        ((b : Action) → Hold k b.effects (case_of c) → (j : ℕ) → j < 64 → case_of d j ≡ step three c.facts b (case_of c j)) → GoesOn c a alive d lanes
    obeys-some-of-fewer lanes k d W =
        obeys-some lanes k d (record { hold = W.hold; among = W.among; some = W.some some; bits = λ j l. W.bits j l ∙ same-lanes j })
