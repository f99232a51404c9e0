-- What is shown of a problem, and of a plan beside it. Assumes nothing.
use Rattle.std.proofs.Common.{◌≡◌, ap, ◌∙◌, Bool, List, [], ◌++◌, ℕ, Option, None, Some, option_map}
use Rattle.std.specs.Borrow.{Bor}
use Rattle.answers.specs.declared.status.Status.TheVariants.{Yes}
use Rattle.reply.specs.Spoken.{Spoken}
use Rattle.reply.specs.Said.{Said}
use Rattle.reply.specs.Replies.{Replied, text_reply}
use Rattle.reply.specs.About.{WithPlan}
use Rattle.texts.specs.Shown.{Shown, shown_reply}

module _ (json : Bool) where
  -- ---- whether there is a plan

  module _ (s : Spoken) (plan : Option (Bor (List ℕ))) (x : Replied) where
    pub shown-alone : plan ≡ None → Shown json None s x → Shown json (option_map (λ p. p.now) plan) s x
    shown-alone is k = rw is k

    pub shown-both : (p : Bor (List ℕ)) → plan ≡ Some p → WithPlan json s p.now (shown_reply json s) x → Shown json (option_map (λ p. p.now) plan) s x
    shown-both p is k = rw is k

  -- ---- what is shown, piece by piece

  module _ (out shown text : List ℕ) (none : out ≡ []) (e : shown ≡ out ++ text) where
    shown-first : shown ≡ text
    shown-first = e ∙ ap (λ x. x ++ text) none

    pub text-shown : (r : Said) → r ≡ text_reply json shown Yes → r ≡ text_reply json text Yes
    text-shown r k = k ∙ ap (λ x. text_reply json x Yes) shown-first

    pub texts-shown : (both plan : List ℕ) (r : Said) → both ≡ shown ++ plan → r ≡ text_reply json both Yes → r ≡ text_reply json (text ++ plan) Yes
    texts-shown both plan r f k = k ∙ ap (λ x. text_reply json x Yes) (f ∙ ap (λ x. x ++ plan) shown-first)
