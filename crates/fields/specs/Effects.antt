-- What the reader of an effect answers.
use Rattle.std.specs.Prelude.{◌≡◌, List, ℕ, ◌<◌, length, get_or, Result, Ok, Err}
use Rattle.model.specs.Action.{Effect}
use Rattle.model.specs.Read.{got}
use Rattle.model.specs.FormulaBytes.{literal_byte}
use Rattle.model.specs.ProblemBytes as bytes
use Rattle.model.specs.declared.Refusal.{Refusal}
use Rattle.formula.specs.Readings.{rejected}

-- an effect that was read from p on, with its literal's byte at p
pub record EffectGot (s : List ℕ) (facts least p q : ℕ) : Type 0 where
  pub effect : Effect
  pub read : bytes.effect s facts least p ≡ got effect q
  pub literal : literal_byte effect.literal ≡ get_or s p 0
  pub inside : p < length s

abbrev pub EffectRead : List ℕ → ℕ → ℕ → ℕ → Result ℕ Refusal → Type 0
EffectRead s facts least p (Err r) = bytes.effect s facts least p ≡ rejected r
EffectRead s facts least p (Ok q) = EffectGot s facts least p q
