-- An action entry by entry: entries whose literals rise, settled from the last to the first, give the values after the action.
-- Assumes nothing.
use Rattle.std.proofs.Common.{◌≡◌, refl, sym, ap, ◌∙◌, true, List, [], ◌∷◌, ℕ, ◌+◌, ◌<◌, arith, length, get_or, set, length-set, get_or-set_same, get_or-set_other, eq-eqb, eqb, ne_eqb, ext_get_or}
use native.Mathlib.Decide.{ℕ_discrete}
use Rattle.model.specs.{Kleene.Kleene, Kleene.No, Kleene.Yes, Kleene.both, Kleene.either, Kleene.denied, Kleene.three}
use Rattle.model.specs.{Formula.Literal, Formula.fact, Formula.denial, Formula.Formula, Formula.any, Formula.none, Formula.value_of, Formula.eval}
use Rattle.model.specs.{Action.Effect, Action.Action, Action.condition_in, Action.condition_of, Action.next, Action.step, FormulaBytes.literal_byte}
use Rattle.fields.specs.ActionBytes.{Rising}
use Rattle.model.proofs.{Laws.Agreement.by_row, Laws.Agreement.by-table, Laws.Tabulate.length-tabulate, Laws.Tabulate.get_d_tabulate}
use Rattle.cases.specs.Cases.{with_literal}
use Rattle.step.proofs.Entries.{condition-below}

-- the values v, in which an entry whose condition has the value t sets or clears its fact
abbrev pub settled_by : Literal → Kleene → List Kleene → List Kleene
settled_by (fact f) t v = set v f (either t (get_or v f No))
settled_by (denial f) t v = set v f (both (get_or v f No) (denied t))

-- and so for each entry, from the last to the first; the conditions are read in the values before
unfoldable pub settled : List Kleene → List Effect → List Kleene
settled before [] = before
settled before (e ∷ es) = settled_by e.literal (eval three before e.condition) (settled before es)

length-by : (l : Literal) (t : Kleene) (v : List Kleene) → length (settled_by l t v) ≡ length v
length-by l t v = grind (arith, length-set {A = Kleene})

length-settled : (v : List Kleene) (es : List Effect) → length (settled v es) ≡ length v
unfolding settled
length-settled v [] = refl
length-settled v (e ∷ es) = length-by e.literal _ (settled v es) ∙ length-settled v es

both_yes : (x : Kleene) → both x Yes ≡ x
both_yes x = by_row (λ x. both x Yes) (λ x. x) refl x

-- ---- the values after an action

module _ (facts : ℕ) (v : List Kleene) (n : length v ≡ facts) (f : ℕ) (b : f < facts) where
  -- the value of f is what its conditions make of it
  abbrev Due : List Effect → Type 0
  Due es = get_or (settled v es) f No ≡ either (eval three v (condition_of (fact f) es)) (both (get_or v f No) (denied (eval three v (condition_of (denial f) es))))

  within : (es : List Effect) → f < length (settled v es)
  within es = omega (arith, length-settled v es)

  -- one more entry, for f or for another fact
  due-next : (least : ℕ) (l : Literal) (φ : Formula) (es : List Effect) → Rising facts least (record { literal = l; condition = φ } ∷ es) → Due es → Due (record { literal = l; condition = φ } ∷ es)
  unfolding settled condition_in eval
  due-next least (fact g) φ es ok i =
      elim (ℕ_discrete f g) [
        | yes d ↦
            let set = condition-below facts (g + 1) es ok.2 (fact f) in
            let own = get_or-set_same (settled v es) f (either (eval three v φ) (get_or (settled v es) f No)) No (within es) in
            let e : eqb f g ≡ true = eq-eqb f g d in
            rw (e, set φ (omega arith), ← d) (own ∙ ap (either (eval three v φ)) (i ∙ rw (set (any none) (omega arith))))
        | no d ↦ rw (ne_eqb f g d) (get_or-set_other (settled v es) g f _ No d ∙ i)
      ]
  due-next least (denial g) φ es ok i =
      elim (ℕ_discrete f g) [
        | yes d ↦
            let clear = condition-below facts (g + 64 + 1) es ok.2 (denial f) in
            let own = get_or-set_same (settled v es) f (both (get_or (settled v es) f No) (denied (eval three v φ))) No (within es) in
            let e : eqb f g ≡ true = eq-eqb f g d in
            let unset = condition-below facts (g + 64 + 1) es ok.2 (fact f) (any none) (omega arith) in
            rw (e, clear φ (omega arith), unset, ← d) (own ∙ ap (λ x. both x (denied (eval three v φ))) (i ∙ rw (unset, clear (any none) (omega arith)) (both_yes (get_or v f No))))
        | no d ↦ rw (ne_eqb f g d) (get_or-set_other (settled v es) g f _ No d ∙ i)
      ]

  settled-due : (least : ℕ) (es : List Effect) → Rising facts least es → Due es
  unfolding settled condition_in eval
  settled-due least [] ok = sym (both_yes (get_or v f No))
  settled-due least (e ∷ es) ok = due-next least e.literal e.condition es ok (settled-due (literal_byte e.literal + 1) es ok.2)

pub settled-is : (facts : ℕ) (a : Action) (v : List Kleene) → Rising facts 0 a.effects → length v ≡ facts → settled v a.effects ≡ step three facts a v
unfolding step next
settled-is facts a v ok n =
    let size = length-settled v a.effects ∙ n in
    ext_get_or No _ _ (size ∙ sym (length-tabulate facts (next three a v))) λ g l.
    let b : g < facts = omega (arith, size) in
    settled-due facts v n g b 0 a.effects ok ∙ sym (get_d_tabulate facts (next three a v) g No b)

-- ---- one entry, as a literal that is put

either-denied : (t x : Kleene) → denied (either t (denied x)) ≡ both x (denied t)
either-denied = by-table (λ t x. denied (either t (denied x))) (λ t x. both x (denied t)) refl

-- the literal holds where it did, or where its condition does
pub settles-literal : (m : Literal) (t : Kleene) (v : List Kleene) → with_literal m (either t (value_of three v m)) v ≡ settled_by m t v
settles-literal (fact f) t v = refl
settles-literal (denial f) t v = ap (set v f) (either-denied t (get_or v f No))
