-- The length field, and the whole formula after it, case by case. Assumes nothing.
use Rattle.std.proofs.Common.{◌≡◌, refl, sym, Bool, true, false, ◌&&◌, List, ℕ, ◌+◌, ◌*◌, ◌<◌, ◌≤◌, arith, length, get_or, leb, lt-ltb, le-ltb, le-leb, leb-true, leb-false, Ok, Err}
use borrow.Author.Tests.{lt-leb}
use Rattle.model.specs.Limits.{max_formula_bytes, max_depth}
use Rattle.model.specs.Read.{reject, got, Reader, and_then, done, position, require, byte, ◌>>=◌, ◌>>◌}
use Rattle.model.specs.FormulaBytes.{item, stated, formula}
use Rattle.model.specs.Faults.{fault_number, refusal_at}
use Rattle.model.specs.declared.Refusal.{Refusal}
use Rattle.model.specs.declared.fault.Fault.{Fault}
use Rattle.formula.specs.Readings.{forgotten, rejected, stated_formula, EndStated}
use Rattle.formula.proofs.Readers.{then_next, onto, then-onto}

module _ (s : List ℕ) (p : ℕ) where
  pub stated-refuses : {f : Fault} {q : ℕ} {r : Refusal} → r ≡ refusal_at f q → reject (fault_number f) q ≡ stated s p → EndStated s p (Err r)
  stated-refuses e h = record { is = rw e h; within = tt }

  pub stated-none : length s ≤ p + 1 → reject 14 (length s) ≡ stated s p
  unfolding stated ◌>>=◌ and_then position byte
  stated-none h = go (leb (length s) p) refl
    where
      go : (t : Bool) → leb (length s) p ≡ t → reject 14 (length s) ≡ stated s p
      go true e = let k = leb-true (length s) p e in simp le-ltb
      go false e = let k = leb-false (length s) p e in simp (lt-ltb, le-ltb)

  -- the length can be read
  module _ (h : p + 1 < length s) where
    abbrev n : ℕ
    n = get_or s p 0 * 256 + get_or s (p + 1) 0

    abbrev rest : Reader ℕ
    rest = do
      require (leb 1 n && leb n max_formula_bytes) 17 p
      begin ← position
      require (leb (begin + n) (length s)) 14 (length s)
      done (begin + n)

    stated-by : stated s p ≡ rest (p + 2)
    unfolding stated ◌>>=◌ and_then position byte
    stated-by =
        let i : p < length s = omega arith in
        let t : p + 1 + 1 ≡ p + 2 = omega arith in
        simp (lt-ltb, t)

    pub stated-length : (1 ≤ n → n ≤ max_formula_bytes → ⊥) → reject 17 p ≡ stated s p
    unfolding ◌>>=◌ ◌>>◌ position and_then require
    stated-length k = rw stated-by (go (leb 1 n) refl)
      where
        go : (t : Bool) → leb 1 n ≡ t → reject 17 p ≡ rest (p + 2)
        go true e = let l : max_formula_bytes < n = omega (arith, leb-true 1 n e, k) in simp (e, lt-leb)
        go false e = rw e

    module _ (k : 1 ≤ n) (l : n ≤ max_formula_bytes) where
      pub stated-short : length s < p + 2 + n → reject 14 (length s) ≡ stated s p
      unfolding ◌>>=◌ ◌>>◌ position and_then require
      stated-short m = rw stated-by (simp (le-leb, lt-leb))

      pub stated-whole : p + 2 + n ≤ length s → got (p + 2 + n) (p + 2) ≡ stated s p
      unfolding ◌>>=◌ ◌>>◌ position and_then require done
      stated-whole m = rw stated-by (simp le-leb)

-- a formula, by its length field
pub formula-refused :
    (s : List ℕ) (facts p : ℕ) (r : Refusal) → EndStated s p (Err r) → rejected r ≡ forgotten (formula s facts p)
unfolding formula ◌>>=◌ and_then forgotten
formula-refused s facts p r h = rw (← h.is)

pub formula-next :
    (s : List ℕ) (facts p end : ℕ) → EndStated s p (Ok end) → forgotten (stated_formula s end facts (p + 2)) ≡ forgotten (formula s facts p)
unfolding formula stated_formula ◌>>=◌ and_then
formula-next s facts p end h = rw (← h.is)

-- and what was read of it, by the end of its stated bytes
module _ (s : List ℕ) (end facts p : ℕ) where
  after_item : onto (λ q. forgotten (require (leb end q) 21 q q)) (forgotten (item s end facts max_depth 0 p)) ≡ forgotten (stated_formula s end facts p)
  unfolding stated_formula ◌>>=◌ ◌>>◌ and_then position require done
  after_item = then-onto (item s end facts max_depth 0 p) _ _ (λ f q. sym (then_next (require (leb end q) 21 q q) (λ u. f)))

  pub after_refused : (r : Refusal) → rejected r ≡ forgotten (item s end facts max_depth 0 p) → rejected r ≡ forgotten (stated_formula s end facts p)
  after_refused r h = rw (← h) at after_item

  pub after_read :
      (q : ℕ) → got tt q ≡ forgotten (item s end facts max_depth 0 p) →
      forgotten (require (leb end q) 21 q q) ≡ forgotten (stated_formula s end facts p)
  after_read q h = rw (← h) at after_item
