-- What the code has of names and of formulas.
use Rattle.std.specs.Prelude.{◌≡◌, ◌<◌, ◌≤◌, length, List, map, ℕ, Vec, Option, option_map}
use Rattle.std.specs.Borrow.{Bor}
use Rattle.std.specs.declared.alloc.Global.{Global}
use Rattle.model.specs.Formula.{Literal, fact, denial, Formula, Formulas}
use Rattle.model.specs.FormulaBytes.{literal_byte, formula_bytes, member_bytes, member_count, encode_formula}
use Rattle.model.specs.Action.{Effect, Action}
use Rattle.model.specs.ProblemBytes.{effects_bytes, action_bytes, actions_bytes, encode_plan}
use Rattle.model.specs.declared.Limits.{Limits}
use Rattle.model.specs.Limits.{max_facts, max_actions}
use Rattle.make.specs.SourceText.{NamedAction, action_names}
use Rattle.make.specs.declared.problems.Actions.{Actions}
use Rattle.make.specs.declared.actions.Verb.{Verb}
use Rattle.make.specs.declared.actions.Verb.TheVariants.{Sets, Clears}
use Rattle.make.specs.declared.actions.Effect.{Effect as EffectBytes}
use Rattle.make.specs.declared.formulas.FactNames.{FactNames}
use Rattle.make.specs.declared.formulas.Counted.{Counted}

abbrev pub fact_names : FactNames → List (List ℕ)
fact_names facts = map (λ s. s.now) facts.names.now

-- a formula's bytes
abbrev pub IsFormula : Formula → Vec ℕ Global → Type 0
IsFormula f bytes = bytes.items ≡ formula_bytes f

-- and those after their length field
abbrev pub IsField : Formula → Vec ℕ Global → Type 0
IsField f bytes = bytes.items ≡ encode_formula f

pub record AreMembers (ms : Formulas) (c : Counted) : Type 0 where
  pub count : c.count ≡ member_count ms
  pub bytes : c.bytes.items ≡ member_bytes ms

-- what an effect makes of a fact
abbrev pub made_by : Verb → ℕ → Literal
made_by Sets = fact
made_by Clears = denial

pub record IsEffect (e : Effect) (v : EffectBytes) : Type 0 where
  pub literal : v.literal ≡ literal_byte e.literal
  pub small : v.literal < 128
  pub condition : v.condition.items ≡ encode_formula e.condition

pub record AreEffects (es : List Effect) (c : Counted) : Type 0 where
  pub count : c.count ≡ length es
  pub bytes : c.bytes.items ≡ effects_bytes es

abbrev pub IsAction : Action → Vec ℕ Global → Type 0
IsAction a bytes = bytes.items ≡ action_bytes a

-- ---- names

abbrev pub texts : List (Bor (List ℕ)) → List (List ℕ)
texts ns = map (λ s. s.now) ns

abbrev pub IsText : List ℕ → Bor (List ℕ) → Type 0
IsText w v = v.now ≡ w

abbrev pub IsNothing : Unit {0} → Unit {0} → Type 0
IsNothing a v = Unit {0}

pub record IsVersion (F v : Limits) : Type 0 where
  pub same : v ≡ F
  pub facts : v.facts ≤ max_facts

abbrev pub AreNames : List (List ℕ) → Vec (Bor (List ℕ)) Global → Type 0
AreNames names v = texts v.items ≡ names

pub record AreActions (as' : List NamedAction) (v : Actions) : Type 0 where
  pub names : texts v.names.items ≡ action_names as'
  pub bytes : v.bytes.items ≡ actions_bytes (map (λ a. a.action) as')
  pub few : length v.names.items ≤ max_actions

abbrev pub AreSteps : List ℕ → Vec ℕ Global → Type 0
AreSteps steps v = v.items ≡ steps

abbrev pub IsPlan : Option (List ℕ) → Option (Vec ℕ Global) → Type 0
IsPlan p v = option_map (λ b. b.items) v ≡ option_map encode_plan p
