-- What is told of a run that fails. Assumes nothing.
use Rattle.std.proofs.Common.{◌≡◌, refl, ap, ◌∙◌, Bool, List, [], ◌++◌, ℕ, Ok, Err}
use Rattle.model.specs.declared.Refusal.{Refusal}
use Rattle.model.specs.declared.fault.Fault.TheVariants.{StateNumber}
use Rattle.model.specs.Faults.{refusal_at}
use Rattle.names.specs.Names.{Names}
use Rattle.names.specs.Views.{names}
use Rattle.blocks.specs.Values.{problem}
use Rattle.blocks.specs.declared.problem.Problem as blocks
use Rattle.blocks.specs.declared.task.Task.{Task}
use Rattle.answers.specs.declared.status.Status.TheVariants.{No}
use Rattle.explain.specs.Told.{explanation}
use Rattle.explain.specs.Tells.{Explains}
use Rattle.explain.specs.declared.explanation.ExplainError.TheVariants.{Refused}
use Rattle.reply.specs.declared.telling.Spoken as code
use Rattle.reply.specs.Views.{spoken}
use Rattle.reply.specs.Said.{Said}
use Rattle.reply.specs.Replies.{text_reply, refused_reply}
use Rattle.ask.specs.Explained.{explained_reply}

module _ (json : Bool) where
  -- a run, of the task that the code has of a problem that is spoken of
  module _ (s : code.Spoken) (t : Task) (n : ℕ) where
    -- the same, of the task's own problem
    abbrev own_reply : Said
    own_reply = explained_reply json (record { names = names s.names; limits = t.problem.now.limits; problem = problem t.problem.now }) n t.steps.now

    own-spoken : t.problem.now ≡ s.problem → own_reply ≡ explained_reply json (spoken s) n t.steps.now
    own-spoken same = ap (λ (p : blocks.Problem). explained_reply json (record { names = names s.names; limits = p.limits; problem = problem p }) n t.steps.now) same

    pub run-explained :
        {u : Unit {0}} (before after : List ℕ) (r : Said) → t.problem.now ≡ s.problem → before ≡ [] → Explains (names s.names) t n before after (Ok u) → r ≡ text_reply json after No →
        r ≡ explained_reply json (spoken s) n t.steps.now
    run-explained before after r same none (is, text) e =
        let own : text_reply json (explanation (names s.names) (problem t.problem.now) t.problem.now.limits t.steps.now n) No ≡ own_reply = rw is refl in
        let told : after ≡ explanation (names s.names) (problem t.problem.now) t.problem.now.limits t.steps.now n = text ∙ ap (λ x. x ++ explanation (names s.names) (problem t.problem.now) t.problem.now.limits t.steps.now n) none in
        e ∙ ap (λ x. text_reply json x No) told ∙ own ∙ own-spoken same

    pub run-refused :
        (N : Names) (before after : List ℕ) (y : Refusal) (r : Said) → t.problem.now ≡ s.problem → Explains N t n before after (Err (Refused y)) → r ≡ refused_reply json y →
        r ≡ explained_reply json (spoken s) n t.steps.now
    run-refused N before after y r same (is, which, left) e =
        let own : refused_reply json (refusal_at StateNumber 0) ≡ own_reply = rw is refl in
        e ∙ ap (refused_reply json) which ∙ own ∙ own-spoken same
