-- What is replied where a failing run is told.
use Rattle.std.specs.Prelude.{Bool, cond, List, ℕ}
use Rattle.model.specs.declared.fault.Fault.TheVariants.{StateNumber}
use Rattle.model.specs.Faults.{refusal_at}
use Rattle.model.specs.Operations.{task_of, is_state_number}
use Rattle.answers.specs.declared.status.Status.TheVariants.{No}
use Rattle.explain.specs.Told.{explanation}
use Rattle.reply.specs.Spoken.{Spoken}
use Rattle.reply.specs.Said.{Said}
use Rattle.reply.specs.Replies.{text_reply, refused_reply}

module _ (json : Bool) where
  -- a run that is told step by step, of a number that is a state's
  abbrev pub explained_reply : Spoken → ℕ → List ℕ → Said
  explained_reply s n steps =
      cond (is_state_number (task_of s.limits s.problem steps) n)
      (text_reply json (explanation s.names s.problem s.limits steps n) No)
      (refused_reply json (refusal_at StateNumber 0))
