-- A table in which every fact is no, and numbers as words. Assumes nothing.
use Rattle.std.proofs.Common.{◌≡◌, refl, ◌∙◌, List, [], ◌++◌, ℕ, suc, ◌+◌, ◌*◌, ◌-◌, ◌^◌, ◌≤◌, ◌<◌, arith, get_or, replicate, pow_pos}
use native.Mathlib.Nat.{mul-div-mul_right}
use native.Mathlib.Decide.{dec_lt}
use lib.ListN.{get_or-append, get_or-replicate, length-replicate, get_or-eq_default}
use Rattle.std.proofs.lemmas.List.{get_or-append_right}
use Rattle.model.specs.Kleene.{Kleene, No, Yes, three}
use Rattle.model.specs.Formula.{value_of}
use Rattle.model.specs.FormulaBytes.{literal_of}
use Rattle.model.specs.Case.{bit, case_of}
use Rattle.model.proofs.Laws.Cover.{pow-split}
use Rattle.model.specs.Planes.{ones, Table}
use Rattle.model.proofs.Laws.Planes.{all-no, all_yes, literal-fact, literal-denial, table_same}
use Rattle.model.proofs.Laws.Tabulate.{tabulate-below}
use Rattle.cases.specs.Words.{raised, SameCase}

-- ---- the table in which every fact is no

no-value : (b : ℕ) → b < 64 → value_of three [] (literal_of b) ≡ No
no-value b l = rw (literal-fact b l) refl

yes-value : (b : ℕ) → 64 ≤ b → b < 128 → value_of three [] (literal_of b) ≡ Yes
yes-value b h l = rw (literal-denial b (omega arith)) refl

abbrev words : List ℕ
words = replicate 128 0 ++ replicate 128 ones

no-low : (k : ℕ) → k < 128 → get_or words k 0 ≡ 0
no-low k h = get_or-append (replicate 128 0) (replicate 128 ones) 0 k h ∙ get_or-replicate 128 k 0 0 h

no-high : (k : ℕ) → 128 ≤ k → k < 256 → get_or words k 0 ≡ ones
no-high k h l =
    get_or-append_right (replicate 128 0) (replicate 128 ones) 128 k 0 (length-replicate {A = ℕ} 128 0) h ∙
    get_or-replicate 128 (k - 128) ones 0 (omega arith)

pub no-table : Table (replicate 128 0 ++ replicate 128 ones) (λ j. [])
no-table =
    record {
      literal =
          λ b m.
          elim (dec_lt b 64) [
            | yes s ↦
                record { lane = λ j k. rw (no-low (2 * b) (omega arith), no-low (2 * b + 1) (omega arith), no-value b s) all-no }
            | no s ↦
                record {
                  lane =
                      λ j k.
                      rw (no-high (2 * b) (omega arith) (omega arith), no-high (2 * b + 1) (omega arith) (omega arith), yes-value b (omega arith) m)
                      (all_yes k);
                }
          ];
    }

pub get_or-no : (n g : ℕ) → get_or (replicate n No) g No ≡ No
get_or-no n g =
    elim (dec_lt g n) [
      | yes l ↦ get_or-replicate n g No No l
      | no l ↦ get_or-eq_default (replicate n No) No (omega (arith, length-replicate {A = Kleene} n No))
    ]

pub no-facts : (words : List ℕ) (facts : ℕ) → Table words (λ j. []) → Table words (λ j. replicate facts No)
no-facts words facts h = table_same words (λ j. []) (λ j. replicate facts No) h (λ j g l m. get_or-no facts g)

-- ---- a number as a word

module _ (w : ℕ) (word : w ≤ 64) where
  pub raised-bit : (v i : ℕ) → i < w → bit 64 (raised w v) i ≡ bit w v i
  unfolding bit
  raised-bit v i h = rw (pow-split 64 (suc i) w h word, mul-div-mul_right v (2 ^ (w - suc i)) (pow_pos (64 - w)))

  pub raised-case : (v : ℕ) → SameCase w v (raised w v)
  unfolding case_of
  raised-case v n k h = tabulate-below n _ _ λ i l. rw (raised-bit v i (omega arith))
