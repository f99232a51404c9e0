-- The facts of a state and the steps of a plan, one by one. Assumes nothing.
use Rattle.std.proofs.Common.{◌≡◌, sym, ap, ◌∙◌, Bool, true, false, cond, List, [], ◌∷◌, ◌++◌, append_assoc, append-nil, ℕ, zero, suc, ◌+◌, ◌<◌, add-one, arith, length, take, get_or}
use Rattle.std.proofs.lemmas.List.{take_more}
use Rattle.names.specs.{Names.Names, Texts.fact_name, Texts.action_name}
use Rattle.told.specs.{States.true_facts, AnswerText.steps_text}

module _ (N : Names) where
  module _ (holds : ℕ → Bool) where
    abbrev one : ℕ → List ℕ
    one f = cond (holds f) (32 ∷ fact_name N f) []

    last : (n f g : ℕ) → g ≡ f + n → true_facts N holds f n ++ one g ≡ true_facts N holds f (suc n)
    unfolding true_facts
    last zero f g e = ap one (e ∙ omega arith) ∙ sym (append-nil (one f))
    last (suc n) f g e =
        append_assoc (one f) (true_facts N holds (suc f) n) (one g) ∙
        ap (λ (t : List ℕ). one f ++ t) (last n (suc f) g (e ∙ omega arith))

    facts-more : (n : ℕ) → true_facts N holds 0 n ++ one n ≡ true_facts N holds 0 (n + 1)
    facts-more n = rw add-one (last n 0 n (omega arith))

    -- one more fact, which is true
    pub facts-told : (n : ℕ) → holds n ≡ true → true_facts N holds 0 n ++ (32 ∷ fact_name N n) ≡ true_facts N holds 0 (n + 1)
    facts-told n h = rw h at (facts-more n)

    -- one more fact, which is not
    pub facts-left : (n : ℕ) → holds n ≡ false → true_facts N holds 0 n ≡ true_facts N holds 0 (n + 1)
    facts-left n h = sym (append-nil _) ∙ rw h at (facts-more n)

  step-more : (p : List ℕ) (b : ℕ) → steps_text N p ++ (32 ∷ action_name N b) ≡ steps_text N (p ++ (b ∷ []))
  unfolding steps_text
  step-more [] b = ap (λ (t : List ℕ). 32 ∷ t) (sym (append-nil (action_name N b)))
  step-more (a ∷ p) b =
      ap (λ (t : List ℕ). 32 ∷ t)
      (append_assoc (action_name N a) (steps_text N p) (32 ∷ action_name N b) ∙
      ap (λ (t : List ℕ). action_name N a ++ t) (step-more p b))

  -- one more step of a plan, which the list q is
  pub steps-more :
      (p q : List ℕ) (i d : ℕ) → q ≡ p → i < length p → steps_text N (take i p) ++ (32 ∷ action_name N (get_or q i d)) ≡ steps_text N (take (i + 1) p)
  steps-more p q i d e h =
      ap (λ (l : List ℕ). steps_text N (take i p) ++ (32 ∷ action_name N (get_or l i d))) e ∙
      (step-more (take i p) (get_or p i d) ∙ ap (steps_text N) (sym (take_more p i d h)))
