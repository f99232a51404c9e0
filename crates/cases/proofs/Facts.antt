-- Facts that change, one after the other. Assumes nothing.
use Rattle.std.proofs.Common.{◌≡◌, refl, sym, ap, ◌∙◌, cond, List, ℕ, suc, ◌+◌, ◌-◌, ◌≤◌, ◌<◌, max, arith, length, get_or, set, replicate, length-set, ext_get_or, get_or-set_same, get_or-set_other, eqb, ltb, lt-ltb, le-ltb}
use native.Mathlib.Decide.{dec_le, dec_lt, ℕ_discrete}
use lib.ListN.{length-replicate, get_or-replicate, get_or-eq_default}
use Rattle.model.specs.Kleene.{Kleene, No, Unknown, known}
use Rattle.model.specs.Case.{bit, case_of}
use Rattle.model.specs.Planes.{lane_bit}
use Rattle.model.proofs.Laws.Tabulate.{length-tabulate, get_d_tabulate}
use Rattle.model.proofs.Laws.Splitting.{case-known, case-unknown, length-case}
use Rattle.cases.specs.Facts.{with_facts, bits_of, unfixed}
use Rattle.cases.specs.Cases.{value_at, Makes}
use Rattle.cases.specs.declared.value.Value.{Value}

-- ---- several facts changed

-- fact g is none of from .. to - 1
abbrev pub Outside : ℕ → ℕ → ℕ → Type 0
Outside from to g = from ≤ g → g < to → ⊥

abbrev rule : ℕ → ℕ → (ℕ → Kleene) → List Kleene → ℕ → Kleene
rule from to t v g = cond (ltb g from) (get_or v g No) (cond (ltb g to) (t g) (get_or v g No))

module _ (from to : ℕ) (t : ℕ → Kleene) (v : List Kleene) where
  pub length-with_facts : length (with_facts from to t v) ≡ length v
  unfolding with_facts
  length-with_facts = length-tabulate (length v) (rule from to t v)

  pub with_facts-inside : (g : ℕ) → g < length v → from ≤ g → g < to → get_or (with_facts from to t v) g No ≡ t g
  unfolding with_facts
  with_facts-inside g l a b = get_d_tabulate (length v) (rule from to t v) g No l ∙ rw (le-ltb g from a, lt-ltb g to b)

  pub with_facts-outside : (g : ℕ) → Outside from to g → get_or (with_facts from to t v) g No ≡ get_or v g No
  unfolding with_facts
  with_facts-outside g out =
      elim (dec_lt g (length v)) [
        | yes l ↦
            get_d_tabulate (length v) (rule from to t v) g No l ∙
            elim (dec_lt g from) [
              | yes a ↦ rw (lt-ltb g from a)
              | no a ↦ rw (le-ltb g from (omega arith), le-ltb g to (elim (dec_lt g to) [ yes b ↦ absurd (out (omega arith) b) | no b ↦ omega arith ]))
            ]
        | no l ↦
            get_or-eq_default (with_facts from to t v) No (omega (arith, length-with_facts)) ∙ sym (get_or-eq_default v No (omega arith))
      ]

  -- and nothing else is it
  pub with_facts-is :
      (w : List Kleene) → length w ≡ length v → ((g : ℕ) → g < length v → from ≤ g → g < to → get_or w g No ≡ t g) →
      ((g : ℕ) → g < length v → Outside from to g → get_or w g No ≡ get_or v g No) → with_facts from to t v ≡ w
  with_facts-is w e h k =
      ext_get_or No (with_facts from to t v) w (length-with_facts ∙ sym e)
      (λ g l.
      let m : g < length v = omega (arith, length-with_facts) in
      elim (dec_le from g) [
        | yes a ↦
            elim (dec_lt g to) [
              | yes b ↦ with_facts-inside g m a b ∙ sym (h g m a b)
              | no b ↦ with_facts-outside g (λ x y. b y) ∙ sym (k g m (λ x y. b y))
            ]
        | no a ↦ with_facts-outside g (λ x y. a x) ∙ sym (k g m (λ x y. a x))
      ])

pub with_facts-none : (from to : ℕ) (t : ℕ → Kleene) (v : List Kleene) → to ≤ from → with_facts from to t v ≡ v
with_facts-none from to t v h = with_facts-is from to t v v refl (λ g l a b. absurd (omega arith)) (λ g l out. refl)

-- one more
pub with_facts-more :
    (from f to : ℕ) (t : ℕ → Kleene) (v : List Kleene) (x : Kleene) → from ≤ f → f < length v → to ≡ f + 1 → x ≡ t f →
    set (with_facts from f t v) f x ≡ with_facts from to t v
with_facts-more from f to t v x a l e i =
    let old = with_facts from f t v in
    let m : f < length old = omega (arith, length-with_facts from f t v) in
    sym
    (with_facts-is from to t v (set old f x) (length-set old f x ∙ length-with_facts from f t v)
    (λ g k b c.
    elim (ℕ_discrete g f) [
      | yes z ↦ rw z (get_or-set_same old f x No m ∙ i)
      | no n ↦ get_or-set_other old f g x No n ∙ with_facts-inside from f t v g k b (omega arith)
    ])
    (λ g k out.
    get_or-set_other old f g x No (λ z. out (omega arith) (omega arith)) ∙
    with_facts-outside from f t v g (λ b c. out b (omega arith))))

-- past the end there is no fact to change
pub with_facts-cut :
    (from end to : ℕ) (t : ℕ → Kleene) (v : List Kleene) → end ≤ to → (end < to → length v ≤ end) → with_facts from end t v ≡ with_facts from to t v
with_facts-cut from end to t v few all =
    with_facts-is from end t v (with_facts from to t v) (length-with_facts from to t v)
    (λ g l a b. with_facts-inside from to t v g l a (omega arith))
    (λ g l out. with_facts-outside from to t v g (λ a b. out a (elim (dec_lt end to) [ yes m ↦ omega (arith, all m) | no n ↦ omega arith ])))

with_facts-ends :
    (from f to : ℕ) (t : ℕ → Kleene) (v : List Kleene) → f ≤ max from to → to ≤ f → with_facts from f t v ≡ with_facts from to t v
with_facts-ends from f to t v hi lo =
    elim (dec_le from to) [
      | yes a ↦ let e : f ≡ to = omega arith in ap (λ x. with_facts from x t v) e
      | no a ↦ with_facts-none from f t v (omega arith) ∙ sym (with_facts-none from to t v (omega arith))
    ]

-- a loop over from .. to - 1 that has come to f
pub record Changes (changes : ℕ → Value → Value → Type 0) (facts : ℕ) (old : ℕ → List Kleene) (from to : ℕ) (facts' f : ℕ) (new : ℕ → List Kleene) : Type 0 where
  pub same : facts' ≡ facts
  pub within : f ≤ max from to
  pub cases : (t : ℕ → ℕ → Kleene) → Makes changes from to old t → (j : ℕ) → j < 64 → new j ≡ with_facts from f (t j) (old j)

module _ {changes : ℕ → Value → Value → Type 0} {facts : ℕ} {old : ℕ → List Kleene} {from to : ℕ} where
  pub changes-none : Changes changes facts old from to facts from old
  changes-none = record { same = refl; within = omega arith; cases = λ t m j l. sym (with_facts-none from from (t j) (old j) (omega arith)) }

  -- the fact that comes next has the value v, and gets r
  pub changes-more :
      {facts' f f' facts'' : ℕ} {new new' : ℕ → List Kleene} (v r : Value) → ((j : ℕ) → length (old j) ≡ facts) → from ≤ f → f < to → to ≤ facts →
      f' ≡ f + 1 → Changes changes facts old from to facts' f new → facts'' ≡ facts' → ((j : ℕ) → j < 64 → value_at v j ≡ get_or (new j) f No) →
      changes f v r → ((j : ℕ) → j < 64 → new' j ≡ set (new j) f (value_at r j)) → Changes changes facts old from to facts'' f' new'
  changes-more {f = f} {f' = f'} {new = new} v r long a b few e C s h x k =
      record {
        same = s ∙ C.same;
        within = omega arith;
        cases =
            λ t m.
            let now = C.cases t m in
            let was : (j : ℕ) → j < 64 → value_at v j ≡ get_or (old j) f No =
            λ j l. h j l ∙ ap (λ w. get_or w f No) (now j l) ∙ with_facts-outside from f (t j) (old j) f (λ y z. omega arith) in
            λ j l.
            k j l ∙ ap (λ w. set w f (value_at r j)) (now j l) ∙
            with_facts-more from f f' (t j) (old j) (value_at r j) a (omega (arith, long j)) e (m f v r a b was x j l);
      }

  pub changes-ends :
      {facts' f : ℕ} {new : ℕ → List Kleene} → to ≤ f → Changes changes facts old from to facts' f new →
      (t : ℕ → ℕ → Kleene) → Makes changes from to old t → (j : ℕ) → j < 64 → new j ≡ with_facts from to (t j) (old j)
  changes-ends {f = f} h C t m j l = C.cases t m j l ∙ with_facts-ends from f to (t j) (old j) C.within h

-- ---- the bits of a word

pub word-bit : (word f : ℕ) → known (eqb (lane_bit (64 - 1 - f) word) 1) ≡ bits_of word f
unfolding bit lane_bit
word-bit word f = let e : 64 - suc f ≡ 64 - 1 - f = omega arith in rw e refl

-- ---- from one case to another

module _ (n k v k' v' m : ℕ) (first : m ≤ k) (alike : (f : ℕ) → f < m → bit 64 v f ≡ bit 64 v' f) where
  abbrev old : List Kleene
  old = case_of 64 n k v

  abbrev new : List Kleene
  new = case_of 64 n k' v'

  abbrev between : List Kleene
  between = with_facts m k' (bits_of v') old

  between-new : (g : ℕ) → g < n → g < k' → get_or between g No ≡ get_or new g No
  between-new g b l =
      elim (dec_le m g) [
        | yes a ↦
            with_facts-inside m k' (bits_of v') old g (omega (arith, length-case 64 n k v)) a l ∙ sym (case-known 64 n k' v' g l b)
        | no a ↦
            with_facts-outside m k' (bits_of v') old g (λ x y. a x) ∙ case-known 64 n k v g (omega arith) b ∙
            ap known (alike g (omega arith)) ∙ sym (case-known 64 n k' v' g l b)
      ]

  between-old : (g : ℕ) → k' ≤ g → get_or between g No ≡ get_or old g No
  between-old g l = with_facts-outside m k' (bits_of v') old g (λ x y. omega arith)

  pub case-changed : with_facts k' k unfixed between ≡ new
  case-changed =
      let size = length-with_facts m k' (bits_of v') old ∙ length-case 64 n k v in
      with_facts-is k' k unfixed between new (length-case 64 n k' v' ∙ sym size)
      (λ g l a b. case-unknown 64 n k' v' g a (omega (arith, size)))
      (λ g l out.
      elim (dec_lt g k') [
        | yes b ↦ sym (between-new g (omega (arith, size)) b)
        | no b ↦
            let c : k ≤ g = elim (dec_lt g k) [ yes x ↦ absurd (out (omega arith) x) | no x ↦ omega arith ] in
            case-unknown 64 n k' v' g (omega arith) (omega (arith, size)) ∙
            sym (between-old g (omega arith) ∙ case-unknown 64 n k v g c (omega (arith, size)))
      ])

-- ---- every fact of a case is changed

module _ (n : ℕ) (v : List Kleene) (size : length v ≡ n) where
  pub state-fixed : (word : ℕ) → with_facts 0 n (bits_of word) v ≡ case_of 64 n n word
  state-fixed word =
      with_facts-is 0 n (bits_of word) v (case_of 64 n n word) (length-case 64 n n word ∙ sym size)
      (λ g l a b. case-known 64 n n word g b b)
      (λ g l out. absurd (out (omega arith) (omega (arith, size))))

  pub all-freed : with_facts 0 n unfixed v ≡ replicate n Unknown
  all-freed =
      with_facts-is 0 n unfixed v (replicate n Unknown) (length-replicate {A = Kleene} n Unknown ∙ sym size)
      (λ g l a b. get_or-replicate n g Unknown No b)
      (λ g l out. absurd (out (omega arith) (omega (arith, size))))
