-- The text of a plan is read as its steps. Assumes nothing.
use Rattle.std.proofs.Common.{◌≡◌, refl, true, false, List, [], ◌∷◌, ◌++◌, ℕ, zero, suc, ◌≤◌, ◌<◌, arith, length, eqb, None, Some}
use Rattle.std.proofs.lemmas.Bool.{ne_eqb}
use Rattle.model.specs.WellFormed.{Each, PlanOk}
use Rattle.words.specs.Words.{word, after_word, past_blanks, word_length, run_length}
use Rattle.names.specs.Names.{Names, Named, is_name}
use Rattle.names.specs.Texts.{action_name}
use Rattle.names.specs.ProblemText.{steps_text, plan_text}
use Rattle.make.specs.Parsed.{got, ◌>>=◌, and_then, done, found}
use Rattle.make.specs.SourceText.{steps, plan}
use Rattle.make.proofs.Index.{index-named}
use Rattle.make.proofs.NameRead.{name-word, after-name}
use Rattle.make.proofs.ActionsRead.{names_of_actions}

-- a name is some word
some-word : (w : List ℕ) → is_name w ≡ true → eqb (length w) 0 ≡ false
some-word [] e = grind arith
some-word (c ∷ w) e = ne_eqb (length (c ∷ w)) 0 (λ z. omega arith)

-- a name on a line of its own
step-word : (w t : List ℕ) → is_name w ≡ true → word (10 ∷ 32 ∷ 32 ∷ (w ++ (10 ∷ t))) ≡ w
unfolding word past_blanks
step-word w t name = name-word w (10 ∷ t) name refl

after-step : (w t : List ℕ) → is_name w ≡ true → after_word (10 ∷ 32 ∷ 32 ∷ (w ++ (10 ∷ t))) ≡ 10 ∷ t
unfolding after_word past_blanks
after-step w t name = after-name w (10 ∷ t) name refl

-- nothing stands after the last line
no-word : word (10 ∷ []) ≡ []
unfolding word past_blanks word_length
no-word = refl

module _ (N : Names) (count : ℕ) (known : Named count N.actions) where
  -- steps, to the end of the text
  steps-read :
      (bs : List ℕ) (n : ℕ) → length bs ≤ n → Each (λ b. b < count) bs →
      steps (names_of_actions N count) n (10 ∷ steps_text N bs) ≡ got bs (10 ∷ [])
  unfolding steps steps_text ◌>>=◌ and_then done found
  steps-read [] zero few each = rw no-word refl
  steps-read [] (suc n) few each = rw no-word refl
  steps-read (b ∷ bs) zero few each = absurd (omega arith)
  steps-read (b ∷ bs) (suc n) few (lt, each) =
      let name = known.sound b lt in
      let t = steps_text N bs in
      rw
      (step-word (action_name N b) t name, after-step (action_name N b) t name, some-word (action_name N b) name, index-named count N.actions known b lt, steps-read bs n (omega arith) each)
      refl

  -- the plan's part
  pub plan-read : (bs : List ℕ) → PlanOk count bs → plan (names_of_actions N count) (10 ∷ plan_text N bs) ≡ got (Some bs) (10 ∷ [])
  unfolding plan plan_text and_then done after_word word past_blanks word_length run_length
  plan-read bs ok = rw (steps-read bs _ ok.count ok.actions) refl

-- a text with no plan
pub no-plan : (names : List (List ℕ)) → plan names (10 ∷ []) ≡ got None (10 ∷ [])
unfolding plan word past_blanks word_length
no-plan names = refl
