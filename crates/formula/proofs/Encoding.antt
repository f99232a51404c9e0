-- A formula's bytes hold it. Assumes nothing.
use Rattle.std.proofs.Common.{◌≡◌, refl, ap, true, List, [], ◌∷◌, ◌++◌, append_assoc, append-nil, ℕ, ◌+◌, ◌-◌, ◌≤◌, ◌<◌, arith, length, take, drop, le-ltb, le-leb}
use Rattle.model.specs.Formula.{Literal, fact, denial, Formula, Formulas, lit, all, any, none, more}
use Rattle.model.specs.FormulaBytes.{formula, literal_byte, member_count, formula_bytes, member_bytes, encode_formula}
use Rattle.model.specs.WellFormed.{Bytes, Declared, Formed, FormedAll}
use Rattle.model.proofs.Laws.Spans.{FormulaAt}
use Rattle.model.proofs.Laws.Reading.{first as first-byte, span-is, span-length, span-end}
use Rattle.model.proofs.Laws.FormulaCodec.{formula-got, literal-ok, stated-bytes}
use Rattle.model.specs.Limits.{max_depth}
use Rattle.model.specs.Read.{got, bytes_of}
use Rattle.formula.specs.Readings.{forgotten}
use Rattle.formula.proofs.Readers.{next-got}
use Rattle.formula.specs.Decoding.{gathered, first, after, decode, is_sound}
use Rattle.formula.proofs.Decoding.{leaf-first}

pub record Decoded (s : List ℕ) (ms : Formulas) : Type 0 where
  pub is : decode s ≡ ms
  pub sound : is_sound s ≡ true

abbrev joined : Formulas → Formulas → Formulas
joined none fs = fs
joined (more m ms) fs = more m (joined ms fs)

first-joined : (ms fs : Formulas) → first (member_count ms) (joined ms fs) ≡ ms
first-joined none fs = refl
first-joined (more m ms) fs = ap (more m) (first-joined ms fs)

after-joined : (ms fs : Formulas) → after (member_count ms) (joined ms fs) ≡ fs
after-joined none fs = refl
after-joined (more m ms) fs = after-joined ms fs

count-joined : (ms fs : Formulas) → member_count ms ≤ member_count (joined ms fs)
count-joined none fs = omega arith
count-joined (more m ms) fs = omega (arith, count-joined ms fs)

module _ (facts : ℕ) (few : facts ≤ 64) where
  pub literal-small : (l : Literal) → Declared facts l → literal_byte l < 128
  literal-small (fact f) d = omega arith
  literal-small (denial f) d = omega arith

  decoded-literal : (l : Literal) (s : List ℕ) (fs : Formulas) → Declared facts l → Decoded s fs → Decoded (literal_byte l ∷ s) (more (lit l) fs)
  decoded-literal l s fs d h =
      let (e, z) = leaf-first (literal_byte l) s (literal-small l d) in
      record { is = rw (e, (literal-ok facts few l d).1, h.is); sound = rw (z, h.sound) }

  decoded-group :
      (b : ℕ) (s : List ℕ) (ms fs : Formulas) → 128 ≤ b → Decoded s (joined ms fs) → Decoded (b ∷ member_count ms ∷ s) (gathered b (member_count ms) (joined ms fs))
  unfolding decode is_sound
  decoded-group b s ms fs l h =
      let t = le-ltb b 128 l in
      record { is = rw (t, h.is); sound = rw (t, h.is, le-leb (member_count ms) (member_count (joined ms fs)) (count-joined ms fs), h.sound) }

  mutual
    unfolding Formed formula_bytes

    pub decoded-formula :
        (m : Formula) (left parent : ℕ) (s : List ℕ) (fs : Formulas) → Formed facts left parent m → Decoded s fs → Decoded (formula_bytes m ++ s) (more m fs)
    decoded-formula (lit l) left parent s fs d h = decoded-literal l s fs d h
    decoded-formula (all ms) left parent s fs d h =
        rw (first-joined, after-joined) at (decoded-group 0x80 (member_bytes ms ++ s) ms fs (omega arith) (decoded-members ms (left - 1) 0x80 s fs d.3 h))
    decoded-formula (any ms) left parent s fs d h =
        rw (first-joined, after-joined) at (decoded-group 0x81 (member_bytes ms ++ s) ms fs (omega arith) (decoded-members ms (left - 1) 0x81 s fs d.3 h))

    decoded-members :
        (ms : Formulas) (left parent : ℕ) (s : List ℕ) (fs : Formulas) → FormedAll facts left parent ms → Decoded s fs → Decoded (member_bytes ms ++ s) (joined ms fs)
    decoded-members none left parent s fs d h = h
    decoded-members (more m ms) left parent s fs d h =
        rw append_assoc (decoded-formula m left parent (member_bytes ms ++ s) (joined ms fs) d.0 (decoded-members ms left parent s fs d.1 h))

  -- the formula that stands at p, its length field first
  pub stands-decoded :
      (s : List ℕ) (p : ℕ) (f : Formula) (q : ℕ) → FormulaAt s facts p f q →
      (p + 2 ≤ q) × (q ≤ length s) × Decoded (take (q - (p + 2)) (drop (p + 2) s)) (more f none)
  unfolding encode_formula bytes_of decode is_sound
  stands-decoded s p f q at =
      let v = (stated-bytes s facts p f q at).1 in
      let n = span-length v in
      let i : q - (p + 2) ≡ length (formula_bytes f) = omega arith in
      let d = decoded-formula f max_depth 0 [] none at.ok.formed (record { is = refl; sound = refl }) in
      (omega arith, span-end v (omega (arith, (first-byte (first-byte at.bytes).2).0)), rw (i, span-is v) (rw append-nil at d))

-- a formula that was read
pub record Cut (s : List ℕ) (facts p q : ℕ) : Type 0 where
  pub value : Formula
  pub is : formula s facts p ≡ got value q
  pub begins : p + 2 ≤ q
  pub ends : q ≤ length s
  pub decoded : Decoded (take (q - (p + 2)) (drop (p + 2) s)) (more value none)

pub cut : (s : List ℕ) (facts p q : ℕ) → facts ≤ 64 → Bytes s → got tt q ≡ forgotten (formula s facts p) → Cut s facts p q
cut s facts p q few b e =
    let g = next-got (formula s facts p) q e in
    let (k, v) = formula-got s facts few p g.value q b g.is in
    let (l, m, d) = stands-decoded facts few s p g.value q (record { ok = k; bytes = v }) in
    record { value = g.value; is = g.is; begins = l; ends = m; decoded = d }
