-- What the views of an action show.
use Rattle.std.specs.Prelude.{◌≡◌, List, ℕ}
use Rattle.model.specs.Action as model
use Rattle.formula.specs.Decoding.{decode, head}
use Rattle.fields.specs.ActionBytes.{effects_of, body, beyond}
use Rattle.formula.specs.Views.{literal, formula}
use Rattle.fields.specs.declared.actions.Effect.{Effect}
use Rattle.fields.specs.declared.actions.Effects.{Effects}
use Rattle.fields.specs.declared.actions.Action.{Action}
use Rattle.fields.specs.declared.actions.Cut.{Cut}

abbrev pub effect : Effect → model.Effect
effect e = record { literal = literal e.literal; condition = formula e.condition }

abbrev pub effects : Effects → List model.Effect
effects es = effects_of es.count es.bytes.now

abbrev pub action : Action → model.Action
action a = record { precondition = formula a.precondition; effects = effects a.effects }

pub record IsCut (s : List ℕ) (r : Cut) : Type 0 where
  pub formula : formula r.formula ≡ head (decode (body s))
  pub rest : r.rest.now ≡ beyond s
