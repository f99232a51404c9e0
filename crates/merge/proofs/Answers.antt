-- What a merge answers and leaves: the equation with the definition, and the promise. Assumes nothing.
use Rattle.std.proofs.Common.{◌≡◌, refl, sym, ap₂, ◌∙◌, Bool, true, false, cond, ◌||◌, List, ◌++◌, ℕ, ◌≤◌, arith, length, take, drop, ltb, ltb-false, Result, Ok, Err}
use Rattle.std.proofs.Math.Seq.{drop-append_seam, take-append_seam}
use Rattle.model.specs.declared.Lengths.{Lengths}
use Rattle.model.specs.declared.Refusal.{Refusal}
use Rattle.model.specs.Limits.{version2, limits_of}
use Rattle.model.specs.Faults.{fault_number}
use Rattle.model.specs.Answer as Answer
use Rattle.model.specs.Answer.{Answer, refused, answered}
use Rattle.model.specs.Answers.{refusal, plain_answer}
use Rattle.model.specs.Calls.{MergeCall}
use Rattle.model.specs.ProblemBytes.{Problem, problem_of, encode_problem}
use Rattle.model.specs.WellFormed.{Bytes}
use Rattle.model.specs.Merging.{halls, new_numbers, sized, roomy, merged_for, laid_out, merge}
use Rattle.model.proofs.Laws.Tabulate.{length-tabulate}
use Rattle.merge.specs.Promise.{Reads, MergePromised}
use Rattle.merge.proofs.{Sound.halls-count, Together.holds-of-both, Refusals.refused-for}

-- what a call answers and leaves
pub record Answered (first second before before_table : List ℕ) (r : Result Lengths Refusal) (after after_table : List ℕ) : Type 0 where
  pub call : MergeCall first second before before_table r after after_table
  pub promised : MergePromised first second before before_table (plain_answer r) after after_table

-- bytes before others, and what comes after them
takes-first : (bytes rest after : List ℕ) (n : ℕ) → after ≡ bytes ++ rest → n ≡ length bytes → (take n after ≡ bytes) × (drop n after ≡ rest)
takes-first bytes rest after n e z = rw (e, z) (take-append_seam bytes rest, drop-append_seam bytes rest)

fits-room : (size count room places : ℕ) (r : Problem) → answered r ≡ cond (ltb room size || ltb places count) (refused 86 0) (answered r) → (size ≤ room) × (count ≤ places)
fits-room size count room places r e = by-test (ltb room size) (ltb places count) refl refl e
  where
    by-test :
        (s t : Bool) → ltb room size ≡ s → ltb places count ≡ t → answered r ≡ cond (s || t) (refused 86 0) (answered r) →
        (size ≤ room) × (count ≤ places)
    by-test false false u v e = (omega (arith, ltb-false room size u), omega (arith, ltb-false places count v))
    by-test false true u v e = absurd (cc)
    by-test true t u v e = absurd (cc)

module _ (first second before before_table : List ℕ) (b : Bytes first) (b' : Bytes second) where
  abbrev answer : Answer Problem
  answer = merged_for first second (length before) (length before_table)

  refused-by : (y : Refusal) → answer ≡ refusal y → Answered first second before before_table (Err y) before before_table
  unfolding merge laid_out
  refused-by y e =
      record {
        call = rw e (refl, refl, refl);
        promised = (refl, refl, refused-for first second b b' (length before) (length before_table) (fault_number y.fault) y.place e);
      }

  pub first-refused : (y : Refusal) → refusal y ≡ problem_of (limits_of first) first → Answered first second before before_table (Err y) before before_table
  unfolding merged_for Answer.◌>>=◌
  first-refused y e = refused-by y (rw (← e))

  pub second-refused :
      (p : Problem) → answered p ≡ problem_of (limits_of first) first → (y : Refusal) → refusal y ≡ problem_of (limits_of second) second →
      Answered first second before before_table (Err y) before before_table
  unfolding merged_for Answer.◌>>=◌
  second-refused p h y e = refused-by y (rw (← h, ← e))

  module _ (p q : Problem) (h : answered p ≡ problem_of (limits_of first) first) (k : answered q ≡ problem_of (limits_of second) second) where
    abbrev both : Problem
    both = halls p q

    reads : Reads first second p q
    reads = record { reads_first = sym h; reads_second = sym k }

    by-size : answer ≡ Answer.◌>>=◌ (sized both) (roomy (length before) (length before_table))
    unfolding merged_for Answer.◌>>=◌
    by-size = rw (← h, ← k)

    pub over-limit : (y : Refusal) → refusal y ≡ sized both → Answered first second before before_table (Err y) before before_table
    unfolding Answer.◌>>=◌
    over-limit y e = refused-by y (by-size ∙ rw (← e))

    module _ (z : answered both ≡ sized both) where
      by-room : answer ≡ roomy (length before) (length before_table) both
      unfolding Answer.◌>>=◌
      by-room = by-size ∙ rw (← z)

      pub no-room : (y : Refusal) → refusal y ≡ roomy (length before) (length before_table) both → Answered first second before before_table (Err y) before before_table
      no-room y e = refused-by y (by-room ∙ sym e)

      -- both buffers were written
      pub wrote :
          (after : List ℕ) → after ≡ encode_problem version2 both ++ drop (length (encode_problem version2 both)) before → (m : ℕ) → m ≡ length both.actions →
          (after_table : List ℕ) → after_table ≡ new_numbers m ++ drop (length (new_numbers m)) before_table → answered both ≡ roomy (length before) (length before_table) both →
          (l : Lengths) → l.block ≡ length (encode_problem version2 both) → l.table ≡ m →
          Answered first second before before_table (Ok l) after after_table
      unfolding merge laid_out roomy
      wrote after P m e after_table Q f l i j =
          let count = length both.actions in
          let answers : answer ≡ answered both = by-room ∙ sym f in
          let (fit, fit') = fits-room (length (encode_problem version2 both)) count (length before) (length before_table) both f in
          let long : length (new_numbers m) ≡ m = length-tabulate m (λ x. x) in
          let table-is : after_table ≡ new_numbers count ++ drop count before_table = rw (← e) (Q ∙ rw long refl) in
          let (block, rest) = takes-first (encode_problem version2 both) (drop (length (encode_problem version2 both)) before) after l.block P i in
          let (table, table-rest) = takes-first (new_numbers count) (drop count before_table) after_table l.table table-is (j ∙ e ∙ sym (length-tabulate count (λ x. x))) in
          record {
            call = rw answers (ap₂ (λ (x y : ℕ). answered (record { block = x; table = y })) i (j ∙ e), P, table-is);
            promised =
                record {
                  p = p;
                  q = q;
                  reads = reads;
                  block = block;
                  table = rw (← halls-count p q) table;
                  count = j ∙ e ∙ halls-count p q;
                  holds = (holds-of-both first second b b' p q reads).holds (sym z);
                  fits = rw i fit;
                  table_fits = omega (arith, j, e, fit');
                  rest = rest ∙ rw i refl;
                  table_rest = table-rest ∙ rw (j, e) refl;
                };
          }
