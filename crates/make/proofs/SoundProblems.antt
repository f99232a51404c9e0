-- The facts and the actions that a text says are within their limits, and sound. Assumes nothing.
use Rattle.std.proofs.Common.{List, [], ◌∷◌, ◌++◌, map, ℕ, zero, suc, ◌+◌, ◌≤◌, length, length-append, codes, arith}
use Rattle.std.specs.Str.{bytes_eq}
use Rattle.model.specs.declared.Limits.{Limits}
use Rattle.model.specs.Action.{Action}
use Rattle.model.specs.WellFormed.{Each, ActionOk}
use Rattle.words.specs.Words.{word}
use Rattle.make.specs.Parsed.{and_then, ◌>>=◌, done}
use Rattle.make.specs.SourceText.{facts, NamedAction, action, named_action, actions}
use Rattle.make.proofs.SoundParts.{Gives, gives, fails, reads, skips, either-way, ends}
use Rattle.make.proofs.SoundFormulas.{formula_after_is_ok, effects_are_ok}

-- so many names at most, after those before
pub facts_are_few : (n : ℕ) (names : List (List ℕ)) (t : List ℕ) → Gives (facts n names t) (λ ns. length ns ≤ length names + n)
unfolding facts and_then
facts_are_few zero names t = either-way (bytes_eq (word t) (codes "fact")) _ _ (λ e. fails) λ e. gives (omega arith)
facts_are_few (suc n) names t =
    either-way (bytes_eq (word t) (codes "fact")) _ _
    (λ e. skips _ λ w u. ends (facts_are_few n (names ++ w ∷ []) u) λ ns l. omega (arith, length-append names (w ∷ [])))
    λ e. gives (omega arith)

module _ (F : Limits) (names : List (List ℕ)) where
  -- an action that is sound over the facts that have names
  abbrev pub SoundAction : Action → Type 0
  SoundAction a = ActionOk F (length names) a

  -- an action, without its name
  pub action_is_ok : (t : List ℕ) → Gives (action F names t) SoundAction
  unfolding action ◌>>=◌ and_then done
  action_is_ok t =
      reads (formula_after_is_ok names (codes "needs") t) λ f u a.
      reads (effects_are_ok names F.effects 0 u) λ es v (k, l). gives (record { precondition = a; count = l; effects = k })

  -- an action and its name
  pub named_action_is_ok : (taken : List (List ℕ)) (t : List ℕ) → Gives (named_action F names taken t) (λ a. SoundAction a.action)
  unfolding named_action ◌>>=◌ and_then done
  named_action_is_ok taken t = skips _ λ w u. reads (action_is_ok u) λ a v k. gives k

  -- what is asked of so many actions at most, with their names
  abbrev pub ActionsOk : ℕ → List NamedAction → Type 0
  ActionsOk n as' = Each SoundAction (map (λ a. a.action) as') × (length as' ≤ n)

  one-more-ok :
      (before : List NamedAction) (a : NamedAction) → Each SoundAction (map (λ a. a.action) before) → SoundAction a.action →
      Each SoundAction (map (λ a. a.action) (before ++ a ∷ []))
  one-more-ok [] a k l = (l, tt)
  one-more-ok (b ∷ bs) a (k, m) l = (k, one-more-ok bs a m l)

  -- so many more actions at most, after sound ones
  pub actions_are_ok :
      (n : ℕ) (before : List NamedAction) (t : List ℕ) → Each SoundAction (map (λ a. a.action) before) →
      Gives (actions F names n before t) (ActionsOk (length before + n))
  unfolding actions and_then
  actions_are_ok zero before t k = either-way (bytes_eq (word t) (codes "action")) _ _ (λ e. fails) λ e. gives (k, omega arith)
  actions_are_ok (suc n) before t k =
      either-way (bytes_eq (word t) (codes "action")) _ _
      (λ e.
      reads (named_action_is_ok _ _) λ a u l.
      ends (actions_are_ok n (before ++ a ∷ []) u (one-more-ok before a k l)) λ as' (m, o).
      (m, omega (arith, length-append before (a ∷ []))))
      λ e. gives (k, omega arith)
