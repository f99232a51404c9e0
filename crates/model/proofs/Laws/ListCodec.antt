-- Reading a list is exactly the inverse of writing it. Assumes nothing.
use Rattle.model.proofs.Words.{◌≡◌, refl, sym, ap, subst, ◌∙◌, List, [], ◌∷◌, ℕ, zero, suc, ◌+◌, ◌-◌, ◌*◌, ◌/◌, ◌%◌, ◌≤◌, ◌<◌, div-add-mod', div-le_of_le-mul, mul-div_cancel, mul-mod_left, suc-mul, zero-mul, mul_comm, mul-le-mul_right, arith, length, length-append, eqb-true, Limits, answered, Line, and_then, ◌>>◌, done, require, answer_of, bytes_of, line_at, lines_from, of_the_problem, case_list, list_of, line_bytes, lines_bytes, encode_list, Bytes, Each, LineOk, ListOk, Sensible}
use Rattle.model.proofs.Laws.Spans.{Span, nothing, next}
use Rattle.model.proofs.Laws.Reading.{answer-got, Gives, reads, tests, first, join, split, span-length, length-bytes_of, number-got, number_ok, length-block, Lets, lets-version, header-gives, header_ok}

module _ (F : Limits) (sense : Sensible F) (s : List ℕ) where
  pub length-line : (l : Line) → length (line_bytes F l) ≡ F.line
  unfolding line_bytes
  length-line l = rw length-bytes_of (omega (arith, sense.line))

  -- lines
  pub length-lines_from : (n p : ℕ) → length (lines_from F s n p) ≡ n
  unfolding lines_from
  length-lines_from zero p = refl
  length-lines_from (suc n) p = ap suc (length-lines_from n (p + F.line))

  lines-got :
      (n p q : ℕ) → Bytes s → p + n * F.line ≡ q → q ≤ length s →
      Each (LineOk F) (lines_from F s n p) × Span s (length s) p (lines_bytes F (lines_from F s n p)) q
  unfolding lines_from lines_bytes line_at line_bytes
  lines-got zero p q sound e l = let i : p ≡ q = omega (arith, zero-mul F.line) in (tt, nothing i)
  lines-got (suc n) p q sound e l =
      let k : 2 < F.line = sense.line in
      let i : p + F.line + n * F.line ≡ q = omega (arith, suc-mul n F.line) in
      let (ks, rs) = lines-got n (p + F.line) q sound i l in
      let (v, r) = number-got s (F.line - 2) (p + 2) (p + F.line) sound (omega arith) (omega arith) in
      let j : p + 2 ≡ p + 1 + 1 = omega arith in
      let r' = subst (λ (m : ℕ). Span s (length s) m (bytes_of (F.line - 2) (line_at F s p).value) (p + F.line)) j r in (
        (record { kind = sound p; k = sound (p + 1); value = v }, ks),
        next {p = p} (omega arith) refl (next {p = p + 1} (omega arith) refl (join r' rs)),
      )

  pub lines_ok :
      (ls : List Line) (p q : ℕ) → Each (LineOk F) ls → Span s (length s) p (lines_bytes F ls) q → lines_from F s (length ls) p ≡ ls
  unfolding lines_from lines_bytes line_at line_bytes
  lines_ok [] p q k r = refl
  lines_ok (l ∷ ls) p q (k, ks) r =
      let (_, a, v) = first r in
      let (_, b, w) = first v in
      split (bytes_of (F.line - 2) l.value) w λ m x y. grind (arith, (span-length x), length-bytes_of, (number_ok s (F.line - 2) (p + 2) m l.value), (lines_ok ls (p + F.line) q ks))

  pub length-lines : (ls : List Line) → length (lines_bytes F ls) ≡ length ls * F.line
  unfolding lines_bytes
  length-lines [] = sym (zero-mul F.line)
  length-lines (l ∷ ls) = grind (arith, length-append, length-line, (length-lines ls))

  -- the list's version is the problem's, which is a version
  lets-problem : Lets s F.version (of_the_problem F s)
  unfolding of_the_problem ◌>>◌ and_then require
  lets-problem = grind (arith, (lets-version s F.version 71))

  list-gives : Bytes s → Gives (case_list F s 0) (λ ls q. ListOk F ls × (s ≡ encode_list F ls))
  unfolding case_list ◌>>◌ done encode_list
  list-gives sound =
      reads (header-gives s 60 (5 + F.line * F.lines) F.version _ lets-problem 0 sound) λ _ o (i, l, z, law).
      tests _ _ _ _ _ λ t.
      let n = (length s - 5) / F.line in
      let e : n * F.line ≡ length s - 5 = omega (arith, div-add-mod' (length s - 5) F.line, eqb-true ((length s - 5) % F.line) 0 t) in
      grind (arith, (lines-got n 5 (length s) sound), (length-lines_from n 5), div-le_of_le-mul, law)

  pub list_sound : Bytes s → (ls : List Line) → list_of F s ≡ answered ls → ListOk F ls × (s ≡ encode_list F ls)
  unfolding list_of
  list_sound sound ls e = let (q, h) = answer-got (case_list F s 0) e in (list-gives sound).of ls q h

  pub list-ok : (ls : List Line) → ListOk F ls → s ≡ encode_list F ls → list_of F s ≡ answered ls
  unfolding list_of answer_of case_list ◌>>◌ done encode_list and_then require
  list-ok ls k e =
      let m = mul-le-mul_right F.line k.count in
      let i = ap length e ∙ length-block F.version (lines_bytes F ls) in
      let l : length s ≤ 5 + F.line * F.lines = omega (arith, length-lines ls, mul_comm F.lines F.line) in
      let h = header_ok s 60 (5 + F.line * F.lines) F.version _ lets-problem 0 (lines_bytes F ls) e l (omega (arith, sense.lines)) in
      grind (arith, h, length-lines, (mul-mod_left (length ls) F.line), mul-div_cancel, (lines_ok ls 5 (length s) k.lines))
