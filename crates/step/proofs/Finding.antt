-- The loop that finds an action's entries and leaves out the lanes in conflict. Assumes nothing.
use Rattle.std.proofs.Common.{◌≡◌, refl, sym, ap, ◌∙◌, true, false, ℕ, ◌+◌, ◌≤◌, ◌<◌, List, [], ◌∷◌, length, get_or, bit_and, arith}
use Rattle.model.specs.{Limits.max_facts, Kleene.both, Kleene.denied, Kleene.three, Formula.Literal, Formula.eval, FormulaBytes.literal_byte, Action.Effect, Action.Action, WellFormed.Declared, Relevance.fact_of}
use Rattle.formula.specs.Views.{literal, is_denial}
use Rattle.fields.specs.{Actions.effect, declared.actions.Effect.Effect as View}
use Rattle.cases.specs.{declared.value.Value.Value, declared.cases.Cases.Cases, Cases.case_of, Cases.value_at}
use Rattle.step.specs.{declared.conditions.Conditions.Conditions, Conditions.entry_at, Conditions.condition_at, Conditions.Pushed, Conditions.LeftOfAny, Conditions.AllLeftOut, Conditions.LeftOut}
use Rattle.step.proofs.Entries.{byte_at, declared-at}
use Rattle.step.proofs.Holding.{Finding, held-byte, finding-next, finding-ends, next-below, next-literal, next-is}
use Rattle.step.proofs.Conflicts.{Passed, passed-all, passed-set, passed-other, passed-pair, none-left, lowest}

-- the byte of a literal that clears a fact, and of one that sets one
clear-byte : (l : Literal) → true ≡ is_denial l → literal_byte l ≡ fact_of l + 64
clear-byte l e = grind arith

set-byte : (facts : ℕ) (l : Literal) → facts ≤ max_facts → false ≡ is_denial l → Declared facts l → literal_byte l < 64
set-byte facts l h e d = grind arith

-- what is left of any lanes says, over the facts of the cases, what is left of some
pub some-left :
    (facts : ℕ) (cs : Cases) (a : Action) (alive : ℕ) (c : Conditions) (lanes : ℕ) →
    LeftOfAny facts cs a alive c lanes → facts ≡ cs.facts → 0 < alive → LeftOut cs a alive c lanes
some-left facts cs a alive c lanes W e any = record { hold = W.hold; among = W.among; some = W.some any; bits = rw e at W.bits }

pub all-left-out : (facts : ℕ) (cs : Cases) (a : Action) (alive f : ℕ) → AllLeftOut facts cs a alive f → facts ≡ cs.facts → AllLeftOut cs.facts cs a alive f
all-left-out facts cs a alive f W e = rw e at W

module _ (facts : ℕ) (cs : Cases) (a : Action) (alive : ℕ) where
  -- all entries but the rest are held and passed, and some lanes are left, if there were any
  pub record Searching (c : Conditions) (rest : List Effect) (i lanes : ℕ) : Type 0 where
    pub held : Finding facts a.effects (case_of cs) c rest
    pub passed : Passed facts a (case_of cs) alive i c.count lanes
    pub some : 0 < alive → lanes ≡ 0 → ⊥

  pub searching-ends : (c : Conditions) (rest : List Effect) (i lanes : ℕ) → Searching c rest i lanes → rest ≡ [] → LeftOfAny facts cs a alive c lanes
  searching-ends c rest i lanes S e =
      let H = finding-ends _ _ _ _ _ S.held e in
      record { hold = H; among = S.passed.among; some = S.some; bits = passed-all _ _ _ _ _ _ _ S.passed (omega (arith, H.count)) }

  -- the next one, whose condition has the value v
  module _ (few : facts ≤ max_facts) (c : Conditions) (rest : List Effect) (F : Finding facts a.effects (case_of cs) c rest) (r : View) (rest' : List Effect) (x : rest ≡ effect r ∷ rest')
      (v : Value) (y : (j : ℕ) → j < 64 → value_at v j ≡ eval three (case_of cs j) (effect r).condition) where
    more : c.count < length a.effects
    more = next-below _ _ _ _ _ F r rest' x

    is : literal r.literal ≡ (entry_at a.effects c.count).literal
    is = next-literal _ _ _ _ _ F r rest' x

    -- it is passed too, and then pushed
    abbrev Left : ℕ → ℕ → Type 0
    Left i lanes = Passed facts a (case_of cs) alive i (c.count + 1) lanes × (0 < alive → lanes ≡ 0 → ⊥)

    pub turn-ends : (d : Conditions) → Pushed c r.literal.byte v d → (i lanes : ℕ) → Left i lanes → Searching d rest' i lanes
    turn-ends d D i lanes (P, some) = record { held = finding-next _ _ _ _ _ F r rest' x v y d D; passed = rw D.count P; some = some }

    module _ (i lanes : ℕ) (P : Passed facts a (case_of cs) alive i c.count lanes) (some : 0 < alive → lanes ≡ 0 → ⊥) where
      -- it sets a fact
      pub turn-sets : false ≡ is_denial (literal r.literal) → Left i lanes
      turn-sets h =
          let l = set-byte facts (literal r.literal) few h (rw is (declared-at facts 0 a.effects c.count F.ok more).0) in
          (passed-other _ _ _ _ _ _ _ P F.ok more (λ m e. omega (arith, l, ap literal_byte is)) (λ m e. omega (arith, l, ap literal_byte is)), some)

      -- it clears fact f
      module _ (h : true ≡ is_denial (literal r.literal)) (f : ℕ) (of : f ≡ fact_of (literal r.literal)) where
        clears : byte_at a.effects c.count ≡ f + 64
        clears = omega (arith, of, clear-byte (literal r.literal) h, ap literal_byte is)

        sets : i < c.count → get_or c.literals i 0 ≡ byte_at a.effects i
        sets l = held-byte c a.effects i l (F.each i l).0

        pub turn-set : i < c.count → get_or c.literals i 0 < f → Passed facts a (case_of cs) alive (i + 1) c.count lanes
        turn-set l s = passed-set _ _ _ _ _ _ _ P F.ok more (omega (arith, clears, sets l))

        -- no entry sets it
        pub turn-clears : (i < c.count → get_or c.literals i 0 < f → ⊥) → (i < c.count → get_or c.literals i 0 ≡ f → ⊥) → Left i lanes
        turn-clears less same =
            (passed-other _ _ _ _ _ _ _ P F.ok more (λ l e. less l (omega (arith, clears, sets l))) (λ l e. same l (omega (arith, clears, sets l))), some)

        -- entry i does: u is where not both conditions hold
        module _ (l : i < c.count) (same : get_or c.literals i 0 ≡ f) (w t u : Value) (w-is : (j : ℕ) → j < 64 → value_at w j ≡ value_at (condition_at c i) j)
            (t-is : (j : ℕ) → j < 64 → value_at t j ≡ both (value_at w j) (value_at v j)) (u-is : (j : ℕ) → j < 64 → value_at u j ≡ denied (value_at t j)) where
          both-at : byte_at a.effects i + 64 ≡ byte_at a.effects c.count
          both-at = omega (arith, same, sets l, clears)

          u-says :
              (j : ℕ) → j < 64 →
              value_at u j ≡ denied (both (eval three (case_of cs j) (entry_at a.effects i).condition) (eval three (case_of cs j) (entry_at a.effects c.count).condition))
          u-says j m =
              let n = (next-is _ _ _ _ _ F r rest' x).0 in
              u-is j m ∙ rw (t-is j m, w-is j m, (F.each i l).1 j m, y j m, n) refl

          pub turn-pair : (bit_and lanes u.sure ≡ 0 → ⊥) → Left i (bit_and lanes u.sure)
          turn-pair left = (passed-pair _ _ _ _ _ _ _ P F.ok more few both-at u u-says _ refl, λ any. left)

          pub turn-stops : bit_and lanes u.sure ≡ 0 → AllLeftOut facts cs a alive f
          turn-stops gone =
              record {
                bits = none-left _ _ _ _ _ _ _ P F.ok more few both-at u u-says _ refl gone;
                lowest = λ one. sym same ∙ sets l ∙ lowest _ _ _ _ _ _ _ P F.ok more few both-at u u-says _ refl gone (some (omega arith)) one;
              }
