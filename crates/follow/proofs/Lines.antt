-- Following one line. Assumes nothing.
use Rattle.std.proofs.Common.{◌≡◌, refl, sym, ap, ap₂, ◌∙◌, Bool, true, false, not, IsTrue, ◌↔◌, List, ℕ, zero, suc, ◌+◌, ◌-◌, ◌/◌, ◌^◌, ◌≤◌, ◌<◌, arith, shr-shr, eqb, eq-eqb, ne_eqb, Option, None, Some}
use Rattle.std.proofs.lemmas.Bool.{true≢false}
use Rattle.model.specs.Kleene.{Kleene, three}
use Rattle.model.specs.Formula.{eval}
use Rattle.model.specs.Run.{run}
use Rattle.model.specs.Case.{bit, case_of, Task}
use Rattle.model.specs.Answer.{Answer, refused, answered}
use Rattle.model.specs.Walk as model
use Rattle.model.specs.Walk.{kind_number, look_of, look_at}
use Rattle.model.specs.Marks.{kind_of}
use Rattle.model.specs.declared.marks.Kind.{Kind}
use Rattle.model.specs.declared.marks.Kind.TheVariants.{Empty, Carries}
use Rattle.model.specs.CaseList.{claims, first, refuse_at, fault}
use Rattle.model.specs.Planes.{lane_bit}
use Rattle.cases.specs.declared.case.Case.{Case}
use Rattle.cases.specs.declared.cases.Cases.{Cases}
use Rattle.cases.specs.Cases as lanes
use Rattle.cases.specs.Words.{SameCase}
use Rattle.runs.specs.declared.lanes.Looks.{Looks}
use Rattle.runs.specs.Looks.{kind_look, look_bits, LooksAt}
use Rattle.lines.specs.Lines.{form_fault, with_fault, checked}
use Rattle.follow.specs.Follows.{line_answer}

-- ---- the common start of two words

pub alike-bits : (v v' m f : ℕ) → m ≤ 64 → v / 2 ^ (64 - m) ≡ v' / 2 ^ (64 - m) → f < m → bit 64 v f ≡ bit 64 v' f
unfolding bit
alike-bits v v' m f h e l =
    let d : 64 - suc f ≡ (64 - m) + (m - suc f) = omega arith in
    rw (d, ← shr-shr v (64 - m) (m - suc f), ← shr-shr v' (64 - m) (m - suc f), e)

-- ---- a test that says no

pub not-so : {P : Type 0} (b : Bool) → IsTrue b ↔ P → b ≡ false → P → ⊥
not-so b t h p = true≢false (sym (t.1 p) ∙ h)

-- ---- a claim, by the kind that a visit finds

claims-this : (κ : Kind) (found : Option Kind) → found ≡ Some κ → claims (kind_number (kind_of κ)) (kind_look found) ≡ true
claims-this Empty found e = rw e refl
claims-this Carries found e = rw e refl

claims-other : (κ : Kind) (found : Option Kind) → (found ≡ Some κ → ⊥) → claims (kind_number (kind_of κ)) (kind_look found) ≡ false
claims-other κ None h = refl
claims-other Empty (Some Empty) h = absurd (h refl)
claims-other Empty (Some Carries) h = refl
claims-other Carries (Some Empty) h = refl
claims-other Carries (Some Carries) h = absurd (h refl)

-- ---- the faults of a line

form-found :
    (a b c : Bool) (x f : ℕ) → first a 65 (first b 66 (first c 67 0)) ≡ f → 0 < f → first a 65 (first b 66 (first c 67 x)) ≡ f
unfolding first
form-found true b c x f e h = e
form-found false true c x f e h = e
form-found false false true x f e h = e
form-found false false false x f e h = absurd (omega arith)

form-none :
    (a b c : Bool) (x : ℕ) → first a 65 (first b 66 (first c 67 0)) ≡ 0 → first a 65 (first b 66 (first c 67 x)) ≡ x
unfolding first
form-none true b c x e = absurd (omega arith)
form-none false true c x e = absurd (omega arith)
form-none false false true x e = absurd (omega arith)
form-none false false false x e = refl

-- what a check refused has a fault, and what it passed has none
refused-fault : (f i m q : ℕ) (l : model.Line) → ◌≡◌ {A = Answer model.Line} (refused m q) (with_fault f i l) → (0 < f) × (◌≡◌ {A = Answer ℕ} (refused m q) (refused f i))
refused-fault zero i m q l e = let z : ◌≡◌ {A = ℕ} 0 1 = cc in absurd (omega arith)
refused-fault (suc f) i m q l e = let a : m ≡ suc f = cc in let b : q ≡ i = cc in (omega arith, rw (a, b))

passed-fault : (f i : ℕ) (l m : model.Line) → answered m ≡ with_fault f i l → (f ≡ 0) × (m ≡ l)
passed-fault zero i l m e = (refl, cc)
passed-fault (suc f) i l m e = let z : ◌≡◌ {A = ℕ} 0 1 = cc in absurd (omega arith)

refuses : (f i : ℕ) (rest : Answer ℕ) → 0 < f → refuse_at f i rest ≡ refused f i
unfolding refuse_at
refuses zero i rest h = absurd (omega arith)
refuses (suc f) i rest h = refl

goes-on : (i : ℕ) (rest : Answer ℕ) → refuse_at 0 i rest ≡ rest
unfolding refuse_at
goes-on i rest = refl

-- ---- a line of T, which should begin at x, where the check knows the width and the facts as w and n

module _ (T : Task) (w n : ℕ) (w-is : T.width ≡ w) (n-is : T.facts ≡ n) (i x : ℕ) where
  by-fault : (l : model.Line) (f : ℕ) → fault w (look_at T) n l x ≡ f → line_answer T l i x ≡ refuse_at f i (answered (x + 2 ^ (w - l.k)))
  by-fault l f e =
      ap₂ (λ (a b : ℕ). refuse_at (fault a (look_at T) b l x) i (answered (x + 2 ^ (a - l.k)))) w-is n-is ∙
      ap (λ (z : ℕ). refuse_at z i (answered (x + 2 ^ (w - l.k)))) e

  at-fault : (l : model.Line) (f : ℕ) → fault w (look_at T) n l x ≡ f → 0 < f → refused f i ≡ line_answer T l i x
  at-fault l f e h = sym (by-fault l f e ∙ refuses f i _ h)

  pub line-faulty : (l : model.Line) (m q : ℕ) → refused m q ≡ checked w n i l → refused m q ≡ line_answer T l i x
  unfolding form_fault fault
  line-faulty l m q e =
      let (h, k) = refused-fault (form_fault w n l) i m q l e in
      k ∙ at-fault l (form_fault w n l) (form-found _ _ _ _ _ refl h) h

  -- its form is right
  module _ (l m : model.Line) (c : answered m ≡ checked w n i l) where
    sound : form_fault w n m ≡ 0
    sound = let (h, e) = passed-fault (form_fault w n l) i l m c in ap (form_fault w n) e ∙ h

    -- so its place and its claim are left
    placed : fault w (look_at T) n m x ≡ first (not (eqb m.value x)) 68 (first (not (claims m.kind (look_at T m.k m.value))) 69 0)
    unfolding form_fault fault
    placed = form-none _ _ _ _ sound

    as-read : line_answer T m i x ≡ line_answer T l i x
    as-read = ap (λ (z : model.Line). line_answer T z i x) (passed-fault (form_fault w n l) i l m c).1

    pub line-apart : (m.value ≡ x → ⊥) → refused 68 i ≡ line_answer T l i x
    unfolding first
    line-apart h = at-fault m 68 (placed ∙ rw (ne_eqb m.value x h)) (omega arith) ∙ as-read

    module _ (begins : m.value ≡ x) where
      pub line-denied : claims m.kind (look_at T m.k m.value) ≡ false → refused 69 i ≡ line_answer T l i x
      unfolding first
      line-denied h = at-fault m 69 (placed ∙ rw (eq-eqb m.value x begins, h)) (omega arith) ∙ as-read

      pub line-holds : claims m.kind (look_at T m.k m.value) ≡ true → (e : ℕ) → e ≡ x + 2 ^ (w - m.k) → answered e ≡ line_answer T l i x
      unfolding first
      line-holds h e e-is =
          let none : fault w (look_at T) n m x ≡ 0 = placed ∙ rw (eq-eqb m.value x begins, h) in
          ap answered e-is ∙ sym (by-fault m 0 none ∙ goes-on i _) ∙ as-read

-- ---- the case of a line

-- cases that all went to one case, by the facts that they have then
pub moved-lanes :
    (c : Cases) (n : ℕ) (to : Case) → c.facts ≡ n → ((j : ℕ) → j < 64 → lanes.case_of c j ≡ lanes.values_of n to) →
    (j : ℕ) → j < 64 → lanes.case_of c j ≡ lanes.values_of c.facts to
moved-lanes c n to e moved j l = moved j l ∙ ap (λ (f : ℕ). lanes.values_of f to) (sym e)

-- as a word it is the same case
pub case-of-line :
    (T : Task) (w n : ℕ) → T.width ≡ w → T.facts ≡ n → n ≤ w → (k v word : ℕ) → SameCase w v word → (case : List Kleene) → case ≡ case_of 64 n k word →
    case ≡ case_of T.width T.facts k v
case-of-line T w n w-is n-is few k v word same case e = e ∙ same n k few ∙ (λ j. case_of (sym w-is j) (sym n-is j) k v)

-- what a visit finds of it, by a look at cases of which lane 0 has it
module _ (T : Task) (c : Cases) (r : Looks) (L : LooksAt T (lanes.case_of c) r) (k v : ℕ) (e : lanes.case_of c 0 ≡ case_of T.width T.facts k v)
    (found : Option Kind) (F : kind_look found ≡ look_bits (lane_bit 0 r.empty) (lane_bit 0 r.carries)) (κ : Kind) where
  finds : kind_look found ≡ look_at T k v
  unfolding look_at
  finds = F ∙ L 0 (omega arith) ∙ ap (λ (z : List Kleene). look_of (eval three z T.initial) (run three T.facts T.goal T.plan 0 z)) e

  pub claim-so : found ≡ Some κ → claims (kind_number (kind_of κ)) (look_at T k v) ≡ true
  claim-so s = rw (← finds) (claims-this κ found s)

  pub claim-not_so : (found ≡ Some κ → ⊥) → claims (kind_number (kind_of κ)) (look_at T k v) ≡ false
  claim-not_so s = rw (← finds) (claims-other κ found s)
