-- Whether a plan is wrong, and what is told then.
use Rattle.std.proofs.Common.{◌≡◌, sym, ◌∙◌, subst, Bool, List, ℕ, Option, None, Some, Result, Ok}
use Rattle.model.specs.declared.Refusal.{Refusal}
use Rattle.answers.specs.declared.answer.Answer.{Answer}
use Rattle.reply.specs.Spoken.{Spoken}
use Rattle.reply.specs.Replies.{Replied, answered_reply}
use Rattle.reply.specs.About.{WithPlan}
use Rattle.ask.specs.Explained.{explained_reply}
use Rattle.ask.specs.Commands.{failing_state, Explains}

module _ (json : Bool) (s : Spoken) (plan : List ℕ) (r : Result Answer Refusal) (o : Option ℕ) (x : Replied) (e : o ≡ failing_state r) where
  pub wrong-explained : (n : ℕ) → o ≡ Some n → WithPlan json s plan (explained_reply json s n) x → Explains json s plan r (failing_state r) x
  wrong-explained n is k = let P : Option ℕ → Type 0 = λ v. Explains json s plan r v x in subst P (sym is ∙ e) k

  pub others-answered : o ≡ None → x ≡ Ok (answered_reply json s r) → Explains json s plan r (failing_state r) x
  others-answered is k = let P : Option ℕ → Type 0 = λ v. Explains json s plan r v x in subst P (sym is ∙ e) k
