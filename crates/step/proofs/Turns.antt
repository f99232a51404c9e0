-- The loop that settles entries, from the last to the first. Assumes nothing.
use Rattle.std.proofs.Common.{◌≡◌, refl, ap, ◌∙◌, ℕ, ◌+◌, ◌-◌, ◌≤◌, ◌<◌, List, ◌∷◌, length, drop, arith}
use Rattle.std.proofs.lemmas.List.{drop_all, drop_more}
use Rattle.model.specs.{Kleene.either, Kleene.three, Formula.value_of, Action.Effect, Action.Action, Action.step}
use Rattle.cases.specs.{declared.value.Value.Value, declared.cases.Cases.Cases, Cases.case_of, Cases.value_at, Cases.with_literal}
use Rattle.cases.proofs.Lanes.{length-case_in}
use Rattle.step.specs.{declared.conditions.Conditions.Conditions, Conditions.entry_at, Conditions.literal_at, Conditions.condition_at, Conditions.Hold}
use Rattle.step.proofs.{Settling.settled, Settling.settled-is, Settling.settles-literal, Entries.rising-wider, Holding.held-rise}

-- ---- the entries from number e on are settled

pub record Settling (c : Conditions) (before : Cases) (e : ℕ) (now' : Cases) : Type 0 where
  pub facts : now'.facts ≡ before.facts
  pub few : e ≤ c.count
  pub is : (es : List Effect) → Hold c es (case_of before) → (j : ℕ) → j < 64 → case_of now' j ≡ settled (case_of before j) (drop e es)

pub settling-begins : (c : Conditions) (before : Cases) → Settling c before c.count before
unfolding settled
settling-begins c before = record { facts = refl; few = omega arith; is = λ es H j l. rw (drop_all c.count es (omega (arith, H.count))) }

module _ (c : Conditions) (before now' : Cases) (e : ℕ) (S : Settling c before e now') where
  pub settling-ends :
      e ≤ 0 → c.facts ≤ before.facts → (a : Action) → Hold c a.effects (case_of before) → (j : ℕ) → j < 64 → case_of now' j ≡ step three before.facts a (case_of before j)
  settling-ends h few a H j l =
      let z : e ≡ 0 = omega arith in
      let ok = rising-wider c.facts before.facts 0 a.effects few (held-rise c a.effects (case_of before) H) in
      (rw z at (S.is a.effects H j l)) ∙ settled-is before.facts a (case_of before j) ok (length-case_in before.facts _ j)

  -- the entry before, whose literal becomes v
  pub settling-next :
      0 < e → (was v : Value) → ((j : ℕ) → j < 64 → value_at was j ≡ value_of three (case_of now' j) (literal_at c (e - 1))) →
      ((j : ℕ) → j < 64 → value_at v j ≡ either (value_at (condition_at c (e - 1)) j) (value_at was j)) →
      (later : Cases) → later.facts ≡ now'.facts → ((j : ℕ) → j < 64 → case_of later j ≡ with_literal (literal_at c (e - 1)) (value_at v j) (case_of now' j)) →
      Settling c before (e - 1) later
  unfolding settled
  settling-next pos was v old new later f put =
      record {
        facts = f ∙ S.facts;
        few = omega (arith, S.few);
        is =
            λ es H j l.
            let b : e - 1 < length es = omega (arith, S.few, H.count) in
            let i : e - 1 < c.count = omega (arith, S.few) in
            let k : e - 1 + 1 ≡ e = omega arith in
            let q : drop (e - 1) es ≡ entry_at es (e - 1) ∷ drop e es = drop_more es (e - 1) _ b ∙ ap (λ (w : ℕ). entry_at es (e - 1) ∷ drop w es) k in
            rw (put j l, new j l, old j l, settles-literal (literal_at c (e - 1)) (value_at (condition_at c (e - 1)) j) (case_of now' j)) (rw (q, settled, H.literal (e - 1) i, H.value (e - 1) i j l, S.is es H j l) refl);
      }
