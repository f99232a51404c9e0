-- What a hall's actions do in a state of the merged problem: its own values stand there between n others and some more. The first hall's have none
-- before them, and the second's none after. Assumes nothing.
use Rattle.std.proofs.Common.{◌≡◌, refl, sym, ap, ap₂, ◌∙◌, ◌⊎◌, inl, inr, Bool, true, false, cond, ◌&&◌, not, List, [], ◌∷◌, ◌++◌, append-nil, map, ℕ, zero, suc, ◌+◌, ◌-◌, ◌≤◌, ◌<◌, length, get_or, arith}
use Rattle.std.proofs.lemmas.List.{get_or_append_left, get_or-append-add}
use Rattle.std.proofs.lemmas.Bool.{ne_eqb}
use native.Mathlib.Decide.{dec_lt}
use Rattle.model.specs.declared.Limits.{Limits}
use Rattle.model.specs.Kleene.{two}
use Rattle.model.specs.Formula.{Literal, fact, denial, Formula, Formulas, lit, all, any, none, more, value_of, eval, eval_all, eval_any}
use Rattle.model.specs.Action.{Effect, Action, same_literal, condition_in, tabulate, every, sets, clears, exclusive, applicable, next, step}
use Rattle.model.specs.Run.{first_false, unmet, holds_in, lowest_false, at_member, at_fact, part_of}
use Rattle.model.specs.WellFormed.{Declared, Formed, FormedAll, FormulaOk, EffectsOk, ActionOk}
use Rattle.model.specs.Merging.{moved_literal, moved, moved_members, moved_effect, moved_action, parts, joined, both}
use Rattle.model.proofs.Laws.Truth.{and_assoc, and_one}
use Rattle.model.proofs.Laws.Tabulate.{tabulate-below}
use Rattle.model.proofs.Laws.Conflicts.{every-at, every-all, lowest-is, lowest-false}
use Rattle.merge.specs.Beside.{moved_part}
use Rattle.merge.proofs.Sound.{zero-formula, zero-action}

-- ---- numbers below n, m numbers from n on, and k more

-- f is true of all but the m in the middle, of which it says what g says of those below m
module _ (n m k : ℕ) (f g : ℕ → Bool) (else-true : (i : ℕ) → (i < n) ⊎ (n + m ≤ i) → f i ≡ true) (same : (i : ℕ) → i < m → f (n + i) ≡ g i) where
  -- so what holds of both holds of each
  between : (P : Bool → Type 0) → P true → (low : ℕ) → ((i : ℕ) → i < low → P (g i)) → low ≤ m → (i : ℕ) → i < n + low → P (f i)
  between P t low h l i j =
      elim (dec_lt i n) [
        | yes b ↦ rw (else-true i (inl b)) t
        | no c ↦
            let e : n + (i - n) ≡ i = omega arith in
            rw (sym e) (rw (same (i - n) (omega arith)) (h (i - n) (omega arith)))
      ]

  lowest-between : every m g ≡ false → (every (n + (m + k)) f ≡ false) × (lowest_false (n + (m + k)) f ≡ n + lowest_false m g)
  lowest-between e =
      let l = lowest-false m g e in
      lowest-is (n + (m + k)) f (n + lowest_false m g)
      (record {
        below = omega (arith, l.below);
        here = same _ l.below ∙ l.here;
        before = between (λ b. b ≡ true) refl (lowest_false m g) l.before (omega (arith, l.below));
      })

  every-between : every (n + (m + k)) f ≡ every m g
  every-between = by-test (every m g) refl
    where
      by-test : (b : Bool) → every m g ≡ b → every (n + (m + k)) f ≡ b
      by-test false e = (lowest-between e).0
      by-test true e =
          every-all (n + (m + k)) f λ i l.
          elim (dec_lt i (n + m)) [
            | yes b ↦ between (λ b. b ≡ true) refl m (every-at m g e) (omega arith) i b
            | no c ↦ else-true i (inr (omega arith))
          ]

tabulate-more : {X : Type 0} (n m : ℕ) (f : ℕ → X) → tabulate (n + m) f ≡ tabulate n f ++ tabulate m (λ i. f (n + i))
tabulate-more zero m f =
    let e : zero + m ≡ m = omega arith in
    rw e (tabulate-below m f (λ i. f (zero + i)) (λ i l. let z : i ≡ zero + i = omega arith in ap f z))
tabulate-more (suc n) m f =
    let e : suc n + m ≡ suc (n + m) = omega arith in
    rw e
    (ap (λ l. f zero ∷ l)
    (tabulate-more n m (λ i. f (suc i)) ∙
    ap (λ l. tabulate n (λ i. f (suc i)) ++ l)
    (tabulate-below m _ _ (λ i l. let z : suc (n + i) ≡ suc n + i = omega arith in ap f z))))

-- a list by its values
tabulate-values : {X : Type 0} (d : X) (xs : List X) (n : ℕ) (f : ℕ → X) → length xs ≡ n → ((i : ℕ) → i < n → f i ≡ get_or xs i d) → tabulate n f ≡ xs
tabulate-values d [] n f e h = rw (sym e)
tabulate-values d (x ∷ xs) n f e h =
    rw (sym e)
    (ap₂ (λ y l. y ∷ l) (h zero (omega (arith, e)))
    (tabulate-values d xs (length xs) (λ i. f (suc i)) refl (λ i l. h (suc i) (omega (arith, e)))))

-- ---- the entries of an action's literals

same-moved : (n : ℕ) (l k : Literal) → same_literal (moved_literal n l) (moved_literal n k) ≡ same_literal l k
same-moved n l k = grind (arith, ne_eqb)

moved-cond : (n : ℕ) (b : Bool) (f g : Formula) → cond b (moved n f) (moved n g) ≡ moved n (cond b f g)
moved-cond n b f g = grind arith

-- a literal of a fact that is none of a hall's m has no entry in the hall's actions
abbrev Outside : ℕ → ℕ → Literal → Type 0
Outside n m (fact f) = (f < n) ⊎ (n + m ≤ f)
Outside n m (denial f) = (f < n) ⊎ (n + m ≤ f)

else-literal : (n m : ℕ) (l k : Literal) → Outside n m l → Declared m k → same_literal l (moved_literal n k) ≡ false
else-literal n m l k h d = grind (arith, ne_eqb)

else-condition :
    (n m : ℕ) (l : Literal) → Outside n m l → (es : List Effect) (least : ℕ) → EffectsOk m least es → (found : Formula) →
    condition_in found l (map (moved_effect n) es) ≡ found
unfolding condition_in
else-condition n m l h [] least ok found = refl
else-condition n m l h (e ∷ es) least ok found =
    ap (λ (c : Bool). condition_in (cond c (moved n e.condition) found) l (map (moved_effect n) es)) (else-literal n m l e.literal h ok.0) ∙
    else-condition n m l h es _ ok.3 found

-- ---- a hall's part of a state, and its formulas and actions, moved up by n

module _ (n m : ℕ) (before own after : List Bool) (size : length before ≡ n) (size' : length own ≡ m) where
  abbrev values : List Bool
  values = before ++ (own ++ after)

  own-value : (f : ℕ) → f < m → get_or values (n + f) false ≡ get_or own f false
  own-value f h =
      let k : f < length own = omega (arith, h, size') in
      rw (sym size) (get_or-append-add before (own ++ after) f false ∙ get_or_append_left own after false f k)

  own-literal : (l : Literal) → Declared m l → value_of two values (moved_literal n l) ≡ value_of two own l
  own-literal (fact f) h = own-value f h
  own-literal (denial f) h = ap not (own-value f h)

  mutual
    unfolding eval moved Formed

    own-formula : (f : Formula) (left parent : ℕ) → Formed m left parent f → eval two values (moved n f) ≡ eval two own f
    own-formula (lit l) left parent h = own-literal l h
    own-formula (all ms) left parent h = own-all ms _ _ h.3
    own-formula (any ms) left parent h = own-any ms _ _ h.3

    own-all :
        (ms : Formulas) (left parent : ℕ) → FormedAll m left parent ms → eval_all two values (moved_members n ms) ≡ eval_all two own ms
    own-all none left parent h = refl
    own-all (more x ms) left parent h = rw (own-formula x left parent h.0, own-all ms left parent h.1)

    own-any :
        (ms : Formulas) (left parent : ℕ) → FormedAll m left parent ms → eval_any two values (moved_members n ms) ≡ eval_any two own ms
    own-any none left parent h = refl
    own-any (more x ms) left parent h = rw (own-formula x left parent h.0, own-any ms left parent h.1)

  -- a literal's condition is the one that was found, or that of one of the entries
  own-condition :
      (l : Literal) (es : List Effect) (least : ℕ) → EffectsOk m least es → (found : Formula) → eval two values (moved n found) ≡ eval two own found →
      eval two values (condition_in (moved n found) (moved_literal n l) (map (moved_effect n) es)) ≡ eval two own (condition_in found l es)
  unfolding condition_in
  own-condition l [] least ok found same = same
  own-condition l (x ∷ es) least ok found same =
      ap
      (λ (c : Bool). eval two values (condition_in (cond c (moved n x.condition) (moved n found)) (moved_literal n l) (map (moved_effect n) es)))
      (same-moved n l x.literal) ∙
      ap (λ (f : Formula). eval two values (condition_in f (moved_literal n l) (map (moved_effect n) es)))
      (moved-cond n (same_literal l x.literal) x.condition found) ∙
      own-condition l es _ ok.3 _ (chosen (same_literal l x.literal))
    where
      chosen : (b : Bool) → eval two values (moved n (cond b x.condition found)) ≡ eval two own (cond b x.condition found)
      chosen true = own-formula x.condition _ _ ok.2.formed
      chosen false = same

  own-unmet : (f : Formula) (left parent : ℕ) → Formed m left parent f → unmet (holds_in two values) (moved n f) ≡ unmet (holds_in two own) f
  unfolding unmet first_false moved Formed
  own-unmet (lit l) left parent h = refl
  own-unmet (any ms) left parent h = refl
  own-unmet (all ms) left parent h = members ms _ _ h.3
    where
      members :
          (ms : Formulas) (left parent : ℕ) → FormedAll m left parent ms →
          first_false (holds_in two values) (moved_members n ms) ≡ first_false (holds_in two own) ms
      members none left parent h = refl
      members (more x ms) left parent h = rw (own-formula x left parent h.0, members ms left parent h.1)

  module _ (F : Limits) (a : Action) (ok : ActionOk F m a) where
    abbrev act : Action
    act = moved_action n a

    own-sets : (f : ℕ) → sets two act values (n + f) ≡ sets two a own f
    unfolding eval moved
    own-sets f = own-condition (fact f) a.effects 0 ok.effects (any none) refl

    own-clears : (f : ℕ) → clears two act values (n + f) ≡ clears two a own f
    unfolding eval moved
    own-clears f = own-condition (denial f) a.effects 0 ok.effects (any none) refl

    else-sets : (f : ℕ) → (f < n) ⊎ (n + m ≤ f) → sets two act values f ≡ false
    unfolding eval
    else-sets f h = rw (else-condition n m (fact f) h a.effects 0 ok.effects (any none))

    else-clears : (f : ℕ) → (f < n) ⊎ (n + m ≤ f) → clears two act values f ≡ false
    unfolding eval
    else-clears f h = rw (else-condition n m (denial f) h a.effects 0 ok.effects (any none))

    own-exclusive : (f : ℕ) → f < m → exclusive two act values (n + f) ≡ exclusive two a own f
    unfolding exclusive
    own-exclusive f h = rw (own-sets f, own-clears f)

    else-exclusive : (f : ℕ) → (f < n) ⊎ (n + m ≤ f) → exclusive two act values f ≡ true
    unfolding exclusive
    else-exclusive f h = rw (else-sets f h)

    own-next : (f : ℕ) → f < m → next two act values (n + f) ≡ next two a own f
    unfolding next
    own-next f h = rw (own-sets f, own-clears f, own-value f h)

    else-next : (f : ℕ) → (f < n) ⊎ (n + m ≤ f) → next two act values f ≡ get_or values f false
    unfolding next
    else-next f h = rw (else-sets f h, else-clears f h) (and_one _)

    module _ (k : ℕ) (size'' : length after ≡ k) where
      applies : applicable two (n + (m + k)) act values ≡ applicable two m a own
      unfolding applicable
      applies =
          rw (
            own-formula a.precondition _ _ ok.precondition.formed,
            every-between n m k (exclusive two act values) (exclusive two a own) else-exclusive own-exclusive,
          )

      steps : step two (n + (m + k)) act values ≡ before ++ (step two m a own ++ after)
      unfolding step
      steps =
          let first = tabulate-values false before n (next two act values) size λ i h.
          else-next i (inl h) ∙ get_or_append_left before (own ++ after) false i (omega (arith, h, size)) in
          let middle = tabulate-below m (λ i. next two act values (n + i)) (next two a own) own-next in
          let last = tabulate-values false after k (λ i. next two act values (n + (m + i))) size'' λ i h.
          else-next (n + (m + i)) (inr (omega arith)) ∙
          rw (sym size, sym size') (get_or-append-add before (own ++ after) (length own + i) false ∙ get_or-append-add own after i false) in
          tabulate-more n (m + k) (next two act values) ∙
          ap₂ (λ x y. x ++ y) first
          (tabulate-more m k (λ i. next two act values (n + i)) ∙ ap₂ (λ x y. x ++ y) middle last)

      -- what keeps it from being applicable
      part-is : applicable two m a own ≡ false → part_of two (n + (m + k)) act values ≡ moved_part n (part_of two m a own)
      unfolding applicable part_of
      part-is e =
          rw (own-formula a.precondition _ _ ok.precondition.formed, own-unmet a.precondition _ _ ok.precondition.formed)
          (by-precondition (eval two own a.precondition) e)
        where
          by-precondition :
              (b : Bool) → (b && every m (exclusive two a own)) ≡ false →
              cond b (at_fact (lowest_false (n + (m + k)) (exclusive two act values))) (at_member (unmet (holds_in two own) a.precondition)) ≡
              moved_part n (cond b (at_fact (lowest_false m (exclusive two a own))) (at_member (unmet (holds_in two own) a.precondition)))
          by-precondition true r =
              ap at_fact (lowest-between n m k (exclusive two act values) (exclusive two a own) else-exclusive own-exclusive r).1
          by-precondition false r = refl

-- ---- both halls

joined-holds : (s : List Bool) (ms ns : Formulas) → eval_all two s (joined ms ns) ≡ (eval_all two s ms && eval_all two s ns)
unfolding eval
joined-holds s none ns = refl
joined-holds s (more m ms) ns = ap (λ b. eval two s m && b) (joined-holds s ms ns) ∙ sym (and_assoc (eval two s m) _ _)

parts-hold : (s : List Bool) (f : Formula) → eval_all two s (parts f) ≡ eval two s f
unfolding eval
parts-hold s (lit l) = and_one _
parts-hold s (all ms) = refl
parts-hold s (any ms) = and_one _

-- the values s of the first hall and t of the second
module _ (n m : ℕ) (s t : List Bool) (size : length s ≡ n) (size' : length t ≡ m) where
  first-formula : (f : Formula) (left parent : ℕ) → Formed n left parent f → eval two (s ++ t) f ≡ eval two s f
  first-formula f left parent h = ap (eval two (s ++ t)) (sym (zero-formula f)) ∙ own-formula 0 n [] s t refl size f left parent h

  second-formula : (f : Formula) (left parent : ℕ) → Formed m left parent f → eval two (s ++ t) (moved n f) ≡ eval two t f
  second-formula f left parent h =
      ap (λ (c : List Bool). eval two (s ++ c) (moved n f)) (sym (append-nil t)) ∙ own-formula n m s t [] size size' f left parent h

  pub both-holds : (f g : Formula) → FormulaOk n f → FormulaOk m g → eval two (s ++ t) (both f (moved n g)) ≡ (eval two s f && eval two t g)
  unfolding eval
  both-holds f g ok ok' =
      joined-holds (s ++ t) (parts f) (parts (moved n g)) ∙
      rw (parts-hold (s ++ t) f, parts-hold (s ++ t) (moved n g), first-formula f _ _ ok.formed, second-formula g _ _ ok'.formed)

  -- what the merged problem's action does in both, where it is an action of one hall, whose facts are moved up by so much
  pub record Does (act a : Action) (by own : ℕ) (values then : List Bool) : Type 0 where
    pub applies : applicable two (n + m) act (s ++ t) ≡ applicable two own a values
    pub steps : step two (n + m) act (s ++ t) ≡ then
    pub part : applicable two own a values ≡ false → part_of two (n + m) act (s ++ t) ≡ moved_part by (part_of two own a values)

  pub first-does : (F : Limits) (a : Action) → ActionOk F n a → Does a a 0 n s (step two n a s ++ t)
  first-does F a ok =
      let z : 0 + (n + m) ≡ n + m = omega arith in
      record {
        applies = rw (zero-action a, z) at (applies 0 n [] s t refl size F a ok m size');
        steps = rw (zero-action a, z) at (steps 0 n [] s t refl size F a ok m size');
        part = rw (zero-action a, z) at (part-is 0 n [] s t refl size F a ok m size');
      }

  pub second-does : (F : Limits) (a : Action) → ActionOk F m a → Does (moved_action n a) a n m t (s ++ step two m a t)
  second-does F a ok =
      let z : n + (m + 0) ≡ n + m = omega arith in
      record {
        applies = rw (append-nil t, z) at (applies n m s t [] size size' F a ok 0 refl);
        steps = rw (append-nil t, append-nil (step two m a t), z) at (steps n m s t [] size size' F a ok 0 refl);
        part = rw (append-nil t, z) at (part-is n m s t [] size size' F a ok 0 refl);
      }
