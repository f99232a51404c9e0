-- The lines of a list block, one by one. Assumes nothing.
use Rattle.std.proofs.Common.{◌≡◌, refl, sym, ap, ◌∙◌, List, ◌++◌, append_assoc, append-nil, ℕ, zero, suc, ◌+◌, ◌*◌, mul-zero, mul-suc, add-one, arith}
use Rattle.model.specs.{declared.Limits.Limits, ListBytes.line_at, ListBytes.lines_from, DeskText.line_text, DeskText.lines_text}

module _ (F : Limits) (n : ℕ) (list : List ℕ) where
  abbrev lines : ℕ → ℕ → List ℕ
  lines c p = lines_text F n (lines_from F list c p)

  abbrev one : ℕ → List ℕ
  one p = line_text F n (line_at F list p)

  last : (c p q : ℕ) → q ≡ p + F.line * c → lines c p ++ one q ≡ lines (suc c) p
  unfolding lines_text lines_from
  last zero p q e = ap one (e ∙ omega (arith, mul-zero F.line)) ∙ sym (append-nil (one p))
  last (suc c) p q e =
      append_assoc (one p) (lines c (p + F.line)) (one q) ∙
      ap (λ (t : List ℕ). one p ++ t) (last c (p + F.line) q (e ∙ omega (arith, mul-suc F.line c)))

  -- one more line
  pub lines-more : (c p : ℕ) → lines c p ++ one (p + F.line * c) ≡ lines (c + 1) p
  lines-more c p = rw add-one (last c p _ refl)
