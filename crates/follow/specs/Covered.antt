-- What is covered, by the end and the flag that stand for it.
use Rattle.std.specs.Prelude.{◌≡◌, Bool, true, false, cond, not, ℕ, ◌%◌, ◌^◌, ◌<◌, ltb}
use Rattle.std.proofs.Common.{ap, sym, ◌∙◌, refl}
use Rattle.std.proofs.Math.Nat.{mod_self, mod-eq_of_lt, le_refl}
use Rattle.std.proofs.lemmas.Bool.{lt-ltb, le-ltb}

-- how many numbers are covered: all those of 64 bits, whose end has come round, or those below the end
abbrev pub covered_to : Bool → ℕ → ℕ
covered_to full end = cond full (2 ^ 64) end

-- an end that has come round is 0, and each end is a word
abbrev pub RoundAtZero : Bool → ℕ → Type 0
RoundAtZero full end = (full ≡ true → end ≡ 0) × (end < 2 ^ 64)

-- the flag and the end where so many are covered
abbrev pub is_full : ℕ → Bool
is_full n = not (ltb n (2 ^ 64))

abbrev pub round_end : ℕ → ℕ
round_end n = n % 2 ^ 64

-- they are those that the number stands for
pub full_back : (full : Bool) (end : ℕ) → RoundAtZero full end → is_full (covered_to full end) ≡ full
full_back true end h = ap not (le-ltb (2 ^ 64) (2 ^ 64) (le_refl (2 ^ 64)))
full_back false end h = ap not (lt-ltb end (2 ^ 64) h.1)

pub end_back : (full : Bool) (end : ℕ) → RoundAtZero full end → round_end (covered_to full end) ≡ end
end_back true end h = mod_self (2 ^ 64) ∙ sym (h.0 refl)
end_back false end h = mod-eq_of_lt h.1
