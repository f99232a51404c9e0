-- The cases of a table are those that its words hold. Assumes nothing.
use Rattle.std.proofs.Common.{bit_and, bit_or, bit_xor, ◌≡◌, refl, sym, true, ◌∙◌, ℕ, zero, suc, ◌+◌, ◌≤◌, ◌<◌, List, length, get_or, set, eqb, length-set, get_or-set_other, get_or-set_same, arith, ap, ext_get_or, lt-ltb}
use native.Mathlib.Decide.{dec_lt}
use Rattle.std.proofs.lemmas.List.{set_past}
use Rattle.model.specs.Limits.{max_facts}
use Rattle.model.specs.Kleene.{Kleene, No, Unknown, Yes, both, either, denied, is_yes, known, three}
use Rattle.model.specs.Formula.{Literal, fact, denial, value_of}
use Rattle.model.specs.FormulaBytes.{is_literal, literal_of, literal_byte}
use Rattle.model.specs.Relevance.{fact_of}
use Rattle.model.specs.WellFormed.{Declared}
use Rattle.model.proofs.Laws.Agreement.{by_row}
use Rattle.model.proofs.Laws.FormulaCodec.{literal-got, literal-ok}
use Rattle.model.specs.Action.{tabulate}
use Rattle.model.specs.Planes.{lane_bit, some_bit, sure_bit, InLane, InLanes, Table, ones}
use Rattle.model.proofs.Laws.Planes.{bit-small, bit-zero, bit-ones, all-unknown, lane-both, lane-either, lane-denied, literal-fact, literal-denial, table-fact, table_same}
use Rattle.model.proofs.Laws.Tabulate.{length-tabulate, get_d_tabulate, tabulate-below}
use Rattle.cases.specs.Words.{SetsLiteral}
use Rattle.cases.specs.Lanes.{value_in, case_in}
use Rattle.cases.specs.Cases.{with_literal}

pub value-in : {j some sure : ℕ} (t : Kleene) → InLane j some sure t → value_in (lane_bit j some) (lane_bit j sure) ≡ t
value-in No h = rw h.is_some
value-in Unknown h = rw (h.is_some, h.is_sure)
value-in Yes h = rw (h.is_some, h.is_sure)

pub consistent-in : {j some sure : ℕ} (t : Kleene) → InLane j some sure t → lane_bit j sure ≤ lane_bit j some
consistent-in No h = rw (h.is_some, h.is_sure) (omega arith)
consistent-in Unknown h = rw (h.is_some, h.is_sure) (omega arith)
consistent-in Yes h = rw (h.is_some, h.is_sure) (omega arith)

tabulate-all : (n : ℕ) (v : List Kleene) → length v ≡ n → tabulate n (λ f. get_or v f No) ≡ v
tabulate-all n v e =
    let size = length-tabulate n (λ f. get_or v f No) in
    ext_get_or No _ v (size ∙ sym e) (λ g l. get_d_tabulate n _ g No (omega (arith, size)))

-- every lane's case has so many facts
abbrev pub Sized : ℕ → (ℕ → List Kleene) → Type 0
Sized facts case = (j : ℕ) → j < 64 → length (case j) ≡ facts

module _ (facts : ℕ) (words : List ℕ) (case : ℕ → List Kleene) (few : facts ≤ max_facts) (sized : Sized facts case) (table : Table words case) where
  pub case-in : (j : ℕ) → j < 64 → case_in facts words j ≡ case j
  unfolding case_in
  case-in j l =
      tabulate-below facts _ _ (λ f b. value-in _ (table-fact words case f j table (omega arith) l)) ∙ tabulate-all facts (case j) (sized j l)

  pub cases-hold : Table words (case_in facts words)
  cases-hold = table_same words case (case_in facts words) table (λ j g l m. rw (case-in j l) refl)

pub length-case_in : (facts : ℕ) (words : List ℕ) (j : ℕ) → length (case_in facts words j) ≡ facts
unfolding case_in
length-case_in facts words j = length-tabulate facts _

pub sized-in : (facts : ℕ) (words : List ℕ) → Sized facts (case_in facts words)
sized-in facts words j l = length-case_in facts words j

-- a consistent value is that of its two bits
pub value-bits : (some sure : ℕ) → some < 2 → sure ≤ some → (some ≡ some_bit (value_in some sure)) × (sure ≡ sure_bit (value_in some sure))
value-bits zero zero s h = (refl, refl)
value-bits zero (suc sure) s h = absurd (omega arith)
value-bits (suc zero) zero s h = (refl, refl)
value-bits (suc zero) (suc zero) s h = (refl, refl)
value-bits (suc zero) (suc (suc sure)) s h = absurd (omega arith)
value-bits (suc (suc some)) sure s h = absurd (omega arith)

pub lanes-of : (some sure : ℕ) → ((j : ℕ) → j < 64 → lane_bit j sure ≤ lane_bit j some) → InLanes some sure (λ j. value_in (lane_bit j some) (lane_bit j sure))
lanes-of some sure h =
    record { lane = λ j l. let (a, b) = value-bits (lane_bit j some) (lane_bit j sure) (bit-small j some) (h j l) in record { is_some = a; is_sure = b } }

abbrev pub put : Literal → (ℕ → Kleene) → (ℕ → List Kleene) → ℕ → List Kleene
put m t case j = with_literal m (t j) (case j)

denied-twice : (t : Kleene) → denied (denied t) ≡ t
denied-twice t = by_row (λ t. denied (denied t)) (λ t. t) refl t

module _ (facts : ℕ) (few : facts ≤ max_facts) (case : ℕ → List Kleene) (sized : Sized facts case) (t : ℕ → Kleene) where
  put-sized : (m : Literal) → Sized facts (put m t case)
  put-sized (fact f) j l = length-set (case j) f (t j) ∙ sized j l
  put-sized (denial f) j l = length-set (case j) f (denied (t j)) ∙ sized j l

  put-value : (m : Literal) → Declared facts m → (j : ℕ) → j < 64 → value_of three (put m t case j) m ≡ t j
  put-value (fact f) d j l = get_or-set_same (case j) f (t j) No (omega (arith, sized j l))
  put-value (denial f) d j l = ap denied (get_or-set_same (case j) f (denied (t j)) No (omega (arith, sized j l))) ∙ denied-twice (t j)

  put-others : (m : Literal) (j g : ℕ) → (g ≡ literal_byte m → ⊥) → (g + 64 ≡ literal_byte m → ⊥) → get_or (put m t case j) g No ≡ get_or (case j) g No
  put-others (fact f) j g a b = get_or-set_other (case j) f g (t j) No a
  put-others (denial f) j g a b = get_or-set_other (case j) f g (denied (t j)) No (λ e. b (omega (arith, e)))

  module _ (words words' : List ℕ) (b : ℕ) (i : is_literal facts b ≡ true) (some sure : ℕ) (table : Table words case) (v : InLanes some sure t) (x : SetsLiteral words b some sure words') where
    put-table : Table words' (put (literal_of b) t case)
    put-table =
        let (d, e) = literal-got facts few b i in
        x.is case (put (literal_of b) t case) t table v
        (λ j g a c. put-others (literal_of b) j g (λ z. a (z ∙ e)) (λ z. c (z ∙ e)))
        (put-value (literal_of b) d)

    pub put-hold : Table words' (case_in facts words')
    put-hold = cases-hold facts words' (put (literal_of b) t case) few (put-sized (literal_of b)) put-table

    pub put-cases : (j : ℕ) → j < 64 → case_in facts words' j ≡ put (literal_of b) t case j
    put-cases = case-in facts words' (put (literal_of b) t case) few (put-sized (literal_of b)) put-table

-- a literal of a fact that the cases have, and one of a fact that they do not have
by-fact : (facts : ℕ) (m : Literal) → fact_of m < facts → Declared facts m
by-fact facts (fact f) h = h
by-fact facts (denial f) h = h

byte-again : (b : ℕ) → literal_byte (literal_of b) ≡ b
byte-again b = elim (dec_lt b 64) [ yes l ↦ rw (literal-fact b l) refl | no n ↦ rw (literal-denial b (omega arith)) (omega arith) ]

pub literal-by-fact : (facts : ℕ) → facts ≤ 64 → (b : ℕ) → fact_of (literal_of b) < facts → is_literal facts b ≡ true
literal-by-fact facts few b h = rw byte-again at (literal-ok facts few (literal_of b) (by-fact facts (literal_of b) h)).0

pub put-past : (m : Literal) (t : Kleene) (v : List Kleene) → length v ≤ fact_of m → with_literal m t v ≡ v
put-past (fact f) t v h = set_past v f t h
put-past (denial f) t v h = set_past v f (denied t) h

-- and of a fact
pub fact-literal : (facts : ℕ) → facts ≤ 64 → (f : ℕ) → f < facts → is_literal facts f ≡ true
unfolding is_literal
fact-literal facts few f l = rw (lt-ltb f facts l)

pub fact-put : (f : ℕ) → f < 64 → (t : Kleene) (v : List Kleene) → with_literal (literal_of f) t v ≡ set v f t
fact-put f l t v = ap (λ m. with_literal m t v) (literal-fact f l)

pub fact-value : (f : ℕ) (v : List Kleene) → f < 64 → value_of three v (literal_of f) ≡ get_or v f No
fact-value f v l = ap (value_of three v) (literal-fact f l)

-- a value that is known in every lane
pub known-bits : (b : ℕ) → b < 2 → value_in b b ≡ known (eqb b 1)
known-bits zero h = refl
known-bits (suc zero) h = refl
known-bits (suc (suc b)) h = absurd (omega arith)

pub known-put :
    (f word j : ℕ) → f < 64 → (t : Kleene) → t ≡ known (eqb (lane_bit j word) 1) → (v : List Kleene) →
    with_literal (literal_of f) t v ≡ set v f (value_in (lane_bit j word) (lane_bit j word))
known-put f word j l t e v = fact-put f l t v ∙ ap (set v f) (e ∙ sym (known-bits _ (bit-small j word)))

-- ---- the words of a value

pub value-lanes : {some sure : ℕ} {t : ℕ → Kleene} → InLanes some sure t → (j : ℕ) → j < 64 → value_in (lane_bit j some) (lane_bit j sure) ≡ t j
value-lanes h j l = value-in _ (h.lane j l)

pub consistent-lanes : {some sure : ℕ} {t : ℕ → Kleene} → InLanes some sure t → (j : ℕ) → j < 64 → lane_bit j sure ≤ lane_bit j some
consistent-lanes h j l = consistent-in _ (h.lane j l)

pub unknown-lanes : InLanes ones 0 (λ j. Unknown)
unknown-lanes = record { lane = λ j l. all-unknown l }

abbrev Consistent : ℕ → ℕ → Type 0
Consistent some sure = (j : ℕ) → j < 64 → lane_bit j sure ≤ lane_bit j some

abbrev at : ℕ → ℕ → ℕ → Kleene
at some sure j = value_in (lane_bit j some) (lane_bit j sure)

module _ (some sure : ℕ) (h : Consistent some sure) where
  pub denied-lanes : InLanes (bit_xor ones sure) (bit_xor ones some) (λ j. denied (at some sure j))
  denied-lanes = record { lane = λ j l. lane-denied j ((lanes-of some sure h).lane j l) l }

  module _ (some' sure' : ℕ) (k : Consistent some' sure') where
    pub both-lanes : InLanes (bit_and some some') (bit_and sure sure') (λ j. both (at some sure j) (at some' sure' j))
    both-lanes = record { lane = λ j l. lane-both j ((lanes-of some sure h).lane j l) ((lanes-of some' sure' k).lane j l) }

    pub either-lanes : InLanes (bit_or some some') (bit_or sure sure') (λ j. either (at some sure j) (at some' sure' j))
    either-lanes = record { lane = λ j l. lane-either j ((lanes-of some sure h).lane j l) ((lanes-of some' sure' k).lane j l) }

-- a value is yes where its second bit is 1
pub yes-bit : (some sure : ℕ) → sure ≤ some → some < 2 → eqb sure 1 ≡ is_yes (value_in some sure)
yes-bit zero zero h l = refl
yes-bit zero (suc sure) h l = absurd (omega arith)
yes-bit (suc some) zero h l = refl
yes-bit (suc zero) (suc zero) h l = refl
yes-bit (suc zero) (suc (suc sure)) h l = absurd (omega arith)
yes-bit (suc (suc some)) (suc sure) h l = absurd (omega arith)

-- one that is no everywhere, or yes everywhere
pub no-word : (some sure j : ℕ) → some ≡ 0 → value_in (lane_bit j some) (lane_bit j sure) ≡ No
no-word some sure j e = rw (e, bit-zero j) refl

pub yes-word : (some sure j : ℕ) → sure ≡ ones → j < 64 → lane_bit j sure ≤ lane_bit j some → value_in (lane_bit j some) (lane_bit j sure) ≡ Yes
yes-word some sure j e l h =
    let a : lane_bit j sure ≡ 1 = ap (lane_bit j) e ∙ bit-ones j l in
    let b : lane_bit j some ≡ 1 = omega (arith, bit-small j some) in
    rw (a, b) refl
