-- The text of facts is read as their names. Assumes nothing.
use Rattle.std.proofs.Common.{◌≡◌, refl, sym, ap, false, List, ◌∷◌, ◌++◌, append_assoc, ℕ, zero, suc, ◌+◌, ◌≤◌, ◌<◌, arith}
use Rattle.std.specs.Prelude.{codes}
use Rattle.std.specs.Str.{bytes_eq}
use Rattle.model.proofs.Laws.Tabulate.{tabulate-last}
use Rattle.words.specs.Words.{word, after_word, past_blanks, word_length, run_length}
use Rattle.names.specs.Names.{Names, Named}
use Rattle.names.specs.Texts.{fact_name}
use Rattle.names.specs.ProblemText.{facts_text}
use Rattle.make.specs.Parsed.{got, and_then}
use Rattle.make.specs.SourceText.{facts}
use Rattle.make.proofs.FormulaRead.{fact_names}
use Rattle.make.proofs.NameRead.{new-name-read, in-none}

module _ (N : Names) (count : ℕ) (named : Named count N.facts) where
  -- facts, up to a line that is none
  pub facts-read :
      (k f n : ℕ) (t : List ℕ) → k ≤ n → f + k ≤ count → bytes_eq (word (10 ∷ t)) (codes "fact") ≡ false →
      facts n (fact_names N f) (10 ∷ (facts_text N f k ++ t)) ≡ got (fact_names N (f + k)) (10 ∷ t)
  unfolding facts facts_text and_then after_word word past_blanks word_length run_length
  facts-read zero f zero t few most other = rw other (ap (λ (m : ℕ). got (fact_names N m) (10 ∷ t)) (omega arith))
  facts-read zero f (suc n) t few most other = rw other (ap (λ (m : ℕ). got (fact_names N m) (10 ∷ t)) (omega arith))
  facts-read (suc k) f zero t few most other = absurd (omega arith)
  facts-read (suc k) f (suc n) t few most other =
      let lt : f < count = omega arith in
      let free = in-none f (fact_name N) (fact_name N f) (λ j l same. let s : j ≡ f = named.distinct j f (omega arith) lt same in omega arith) in
      let u = 10 ∷ (facts_text N (suc f) k ++ t) in
      let sum : suc f + k ≡ f + suc k = omega arith in
      rw
      (append_assoc (fact_name N f) (10 ∷ facts_text N (suc f) k) t, new-name-read (fact_name N f) u (named.sound f lt) refl (fact_names N f) free, sym (tabulate-last f (fact_name N)), facts-read k (suc f) n t (omega arith) (omega arith) other)
      (ap (λ (m : ℕ). got (fact_names N m) (10 ∷ t)) sum)
