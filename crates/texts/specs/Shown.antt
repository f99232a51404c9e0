-- What is replied where a problem is shown.
use Rattle.std.specs.Prelude.{◌≡◌, Bool, List, ◌++◌, ℕ, Option, None, Some, Ok}
use Rattle.names.specs.ProblemText.{problem_text, plan_text}
use Rattle.names.specs.Names.{Names}
use Rattle.answers.specs.declared.status.Status.TheVariants.{Yes}
use Rattle.reply.specs.Spoken.{Spoken}
use Rattle.reply.specs.Said.{Said}
use Rattle.reply.specs.Replies.{Replied, text_reply}
use Rattle.reply.specs.About.{WithPlan, About}

module _ (json : Bool) where
  -- a problem as a text, and then a plan, if there is one
  abbrev pub shown_text : Spoken → List ℕ
  shown_text s = problem_text s.names s.limits s.problem

  abbrev pub shown_reply : Spoken → List ℕ → Said
  shown_reply s steps = text_reply json (shown_text s ++ plan_text s.names steps) Yes

  abbrev pub Shown : Option (List ℕ) → Spoken → Replied → Type 0
  Shown None s x = x ≡ Ok (text_reply json (shown_text s) Yes)
  Shown (Some plan) s x = WithPlan json s plan (shown_reply s) x

  module _ (given : Option Names) where
    -- the problem as a text, and a plan for it, if there is one
    abbrev pub ShowReply : List ℕ → Option (List ℕ) → Replied → Type 0
    ShowReply problem plan = About json given problem (Shown plan)
