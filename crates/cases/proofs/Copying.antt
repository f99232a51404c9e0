-- The values of some facts copied from one table to another. Assumes nothing.
use Rattle.std.proofs.Common.{◌≡◌, refl, sym, ap, ◌∙◌, List, ℕ, ◌+◌, ◌*◌, ◌-◌, ◌%◌, ◌≤◌, ◌<◌, arith, length, get_or, set}
use native.Mathlib.Decide.{dec_lt, ℕ_discrete}
use lib.ListN.{get_or-eq_default}
use Rattle.std.proofs.lemmas.List.{length-set, get_or-set_same, get_or-set_other}
use Rattle.model.specs.Kleene.{Kleene, No, denied, three}
use Rattle.model.specs.Limits.{max_facts}
use Rattle.model.specs.Formula.{value_of}
use Rattle.model.specs.FormulaBytes.{literal_of}
use Rattle.model.specs.Planes.{Table}
use Rattle.model.proofs.Laws.Planes.{literal-fact, literal-denial}
use Rattle.cases.specs.Words.{CopiesFacts}
use Rattle.cases.specs.Lanes.{case_in}
use Rattle.cases.specs.declared.cases.Cases.{Cases}
use Rattle.cases.specs.Cases.{case_of}
use Rattle.cases.proofs.Lanes.{length-case_in, sized-in, case-in, cases-hold}

-- an element that got the one of another list
module _ (from xs : List ℕ) (n : ℕ) (inside : n < length xs) where
  abbrev stored : List ℕ
  stored = set xs n (get_or from n 0)

  stored-at : (k : ℕ) → k ≡ n → get_or stored k 0 ≡ get_or from k 0
  stored-at k e = rw e (get_or-set_same xs n (get_or from n 0) 0 inside)

  stored-past : (k : ℕ) → (k ≡ n → ⊥) → get_or stored k 0 ≡ get_or xs k 0
  stored-past k m = get_or-set_other xs n k (get_or from n 0) 0 m

-- the words of the facts before i, and those of their denials, are another table's, and each other word is as it was
pub record Copied (i : ℕ) (words from now : List ℕ) : Type 0 where
  pub size : length now ≡ 256
  pub new : (k : ℕ) → k < 256 → k % 128 < 2 * i → get_or now k 0 ≡ get_or from k 0
  pub old : (k : ℕ) → k < 256 → 2 * i ≤ k % 128 → get_or now k 0 ≡ get_or words k 0

pub copied-none : (words from : List ℕ) → length words ≡ 256 → Copied 0 words from words
copied-none words from e =
    record {
      size = e;
      new = λ k h m. absurd (omega (arith, m));
      old = λ k h m. refl;
    }

module _ (i : ℕ) (words from now : List ℕ) (few : i < 64) (C : Copied i words from now) where
  abbrev one : List ℕ
  one = set now (2 * i) (get_or from (2 * i) 0)

  abbrev two : List ℕ
  two = set one (2 * i + 1) (get_or from (2 * i + 1) 0)

  abbrev three-words : List ℕ
  three-words = set two (128 + 2 * i) (get_or from (128 + 2 * i) 0)

  abbrev four : List ℕ
  four = set three-words (128 + 2 * i + 1) (get_or from (128 + 2 * i + 1) 0)

  one-size : length one ≡ 256
  one-size = length-set now _ _ ∙ C.size

  two-size : length two ≡ 256
  two-size = length-set one _ _ ∙ one-size

  three-size : length three-words ≡ 256
  three-size = length-set two _ _ ∙ two-size

  four-size : length four ≡ 256
  four-size = length-set three-words _ _ ∙ three-size

  copied-now : (k : ℕ) → k < 256 → k % 128 < 2 * (i + 1) → get_or four k 0 ≡ get_or from k 0
  copied-now k h m =
      elim (ℕ_discrete k (128 + 2 * i + 1)) [
        | yes e ↦ stored-at from three-words (128 + 2 * i + 1) (omega (arith, three-size)) k e
        | no a ↦
            stored-past from three-words (128 + 2 * i + 1) (omega (arith, three-size)) k a ∙
            elim (ℕ_discrete k (128 + 2 * i)) [
              | yes e ↦ stored-at from two (128 + 2 * i) (omega (arith, two-size)) k e
              | no b ↦
                  stored-past from two (128 + 2 * i) (omega (arith, two-size)) k b ∙
                  elim (ℕ_discrete k (2 * i + 1)) [
                    | yes e ↦ stored-at from one (2 * i + 1) (omega (arith, one-size)) k e
                    | no c ↦
                        stored-past from one (2 * i + 1) (omega (arith, one-size)) k c ∙
                        elim (ℕ_discrete k (2 * i)) [
                          | yes e ↦ stored-at from now (2 * i) (omega (arith, C.size)) k e
                          | no d ↦
                              stored-past from now (2 * i) (omega (arith, C.size)) k d ∙
                              C.new k h (omega (arith, a, b, c, d))
                        ]
                  ]
            ]
      ]

  kept-now : (k : ℕ) → k < 256 → 2 * (i + 1) ≤ k % 128 → get_or four k 0 ≡ get_or words k 0
  kept-now k h m =
      stored-past from three-words (128 + 2 * i + 1) (omega (arith, three-size)) k (λ e. absurd (omega (arith, e))) ∙
      stored-past from two (128 + 2 * i) (omega (arith, two-size)) k (λ e. absurd (omega (arith, e))) ∙
      stored-past from one (2 * i + 1) (omega (arith, one-size)) k (λ e. absurd (omega (arith, e))) ∙
      stored-past from now (2 * i) (omega (arith, C.size)) k (λ e. absurd (omega (arith, e))) ∙
      C.old k h (omega arith)

  pub copied-next : Copied (i + 1) words from four
  copied-next =
      record {
        size = four-size;
        new = copied-now;
        old = kept-now;
      }

-- the facts from `facts` on have the same value in both cases
module _ (facts : ℕ) (v w : List Kleene) (same : (g : ℕ) → facts ≤ g → get_or w g No ≡ get_or v g No) where
  past-same : (b : ℕ) → b < 128 → facts ≤ b % 64 → value_of three w (literal_of b) ≡ value_of three v (literal_of b)
  past-same b l p =
      elim (dec_lt b 64) [
        | yes h ↦ let i : b % 64 ≡ b = omega arith in rw (literal-fact b h) (same b (rw i at p))
        | no h ↦ let i : b % 64 ≡ b - 64 = omega arith in rw (literal-denial b (omega arith)) (ap denied (same (b - 64) (rw i at p)))
      ]

pub copies-facts : (facts i : ℕ) (words from now : List ℕ) → facts ≤ max_facts → i ≡ facts → Copied i words from now → CopiesFacts facts words from now
copies-facts facts i words from now few e C =
    record {
      size = C.size;
      is =
          λ case case' old new same.
          record {
            literal =
                λ b k.
                record {
                  lane =
                      λ j i.
                      elim (dec_lt (b % 64) facts) [
                        | yes y ↦
                            rw (C.new (2 * b) (omega arith) (omega arith), C.new (2 * b + 1) (omega arith) (omega arith)) ((new.literal b k).lane j i)
                        | no n ↦
                            rw (
                              C.old (2 * b) (omega arith) (omega arith),
                              C.old (2 * b + 1) (omega arith) (omega arith),
                              past-same facts (case j) (case' j) (same j) b k (omega arith),
                            ) ((old.literal b k).lane j i)
                      ];
                };
          };
    }

-- past its facts no case has a value, so that all are alike there
past-alike : (facts : ℕ) (words words' : List ℕ) (j g : ℕ) → facts ≤ g → get_or (case_in facts words' j) g No ≡ get_or (case_in facts words j) g No
past-alike facts words words' j g h =
    get_or-eq_default (case_in facts words' j) No (omega (arith, length-case_in facts words' j)) ∙
    sym (get_or-eq_default (case_in facts words j) No (omega (arith, length-case_in facts words j)))

module _ (s o : Cases) (e : s.facts ≡ o.facts) (words : List ℕ) (C : CopiesFacts s.facts s.words o.words words) where
  holds : Table words (case_in s.facts o.words)
  holds = C.is (case_in s.facts s.words) (case_in s.facts o.words) s.hold (rw e o.hold) (past-alike s.facts s.words o.words)

  pub copied-hold : Table words (case_in s.facts words)
  copied-hold = cases-hold s.facts words (case_in s.facts o.words) s.few (sized-in s.facts o.words) holds

  pub copied-cases : (j : ℕ) → j < 64 → case_in s.facts words j ≡ case_of o j
  copied-cases j l = case-in s.facts words (case_in s.facts o.words) s.few (sized-in s.facts o.words) holds j l ∙ ap (λ n. case_in n o.words j) e
