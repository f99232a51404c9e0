-- The steps of reading a plan.
use Rattle.std.proofs.Common.{◌≡◌, ℕ, zero, suc, ◌<◌, ◌≤◌, ◌-◌, eqb, length, List, [], ◌∷◌, ◌++◌, true, false, Some, None, refl, sym, ap, ◌∙◌, subst, arith}
use Rattle.std.proofs.lemmas.List.{length-append, append-nil}
use Rattle.words.specs.Words.{word, after_word, left_at}
use Rattle.make.specs.Parsed.{Parsed, bad, got, and_then, ◌>>=◌, done, found}
use Rattle.make.specs.FormulaText.{index_of}
use Rattle.make.specs.SourceText.{steps}
use Rattle.words.specs.declared.complaint.Complaint.TheVariants.{UnknownAction, TooManySteps}
use Rattle.make.proofs.Parsing.{after, after-none, after-more}

module _ (names : List (List ℕ)) (t : List ℕ) where
  steps-end : (n : ℕ) → eqb (length (word t)) 0 ≡ true → steps names n t ≡ got [] t
  unfolding steps
  steps-end zero ends = rw ends refl
  steps-end (suc n) ends = rw ends refl

  module _ (goes : eqb (length (word t)) 0 ≡ false) where
    steps-over : steps names zero t ≡ bad TooManySteps (left_at t)
    unfolding steps
    steps-over = rw goes refl

    steps-bad : (n : ℕ) → 0 < n → index_of names (word t) ≡ None → steps names n t ≡ bad UnknownAction (left_at t)
    unfolding steps and_then found
    steps-bad zero some unknown = absurd (omega arith)
    steps-bad (suc n) some unknown = rw goes (rw unknown refl)

    steps-more :
        (n k a : ℕ) → n ≡ suc k → index_of names (word t) ≡ Some a → steps names n t ≡ after (a ∷ []) (steps names k (after_word t))
    unfolding steps and_then found ◌>>=◌ done
    steps-more n k a left known =
        subst (λ x. steps names x t ≡ after (a ∷ []) (steps names k (after_word t))) (sym left) (rw goes (rw known (last (steps names k (after_word t)))))
      where
        last : (r : Parsed (List ℕ)) → and_then r (λ bs. done (a ∷ bs)) ≡ after (a ∷ []) r
        last (bad c q) = refl
        last (got bs v) = refl

-- the steps that have been read, and that the rest of the reading gives the rest of them
pub record StepsSoFar (names : List (List ℕ)) (begin now : List ℕ) (before : List ℕ) : Type 0 where
  pub few : length before ≤ 256
  pub read : steps names 256 begin ≡ after before (steps names (256 - length before) now)

pub steps-begin : (names : List (List ℕ)) (t : List ℕ) → StepsSoFar names t t []
steps-begin names t = record { few = omega arith; read = after-none (steps names 256 t) }

module _ (names : List (List ℕ)) (begin now w before : List ℕ) (first : w ≡ word now) (so_far : StepsSoFar names begin now before) where
  pub steps-all : eqb (length w) 0 ≡ true → steps names 256 begin ≡ got before now
  steps-all none =
      let e : eqb (length (word now)) 0 ≡ true = subst (λ x. eqb (length x) 0 ≡ true) first none in
      so_far.read ∙ (ap (after before) (steps-end names now (256 - length before) e) ∙ ap (λ x. got x now) (append-nil before))

  module _ (some : eqb (length w) 0 ≡ false) where
    goes_on : eqb (length (word now)) 0 ≡ false
    goes_on = subst (λ x. eqb (length x) 0 ≡ false) first some

    pub steps-full : length before ≡ 256 → steps names 256 begin ≡ bad TooManySteps (left_at now)
    steps-full full =
        let none_left : 256 - length before ≡ 0 = omega arith in
        so_far.read ∙ ap (after before) (ap (λ n. steps names n now) none_left ∙ steps-over names now goes_on)

    module _ (room : length before ≡ 256 → ⊥) where
      pub steps-unknown : index_of names w ≡ None → steps names 256 begin ≡ bad UnknownAction (left_at now)
      steps-unknown unknown =
          let few = so_far.few in
          let e : index_of names (word now) ≡ None = subst (λ x. index_of names x ≡ None) first unknown in
          so_far.read ∙ ap (after before) (steps-bad names now goes_on (256 - length before) (omega arith) e)

      pub steps-next : (a : ℕ) (u : List ℕ) → u ≡ after_word now → index_of names w ≡ Some a → StepsSoFar names begin u (before ++ (a ∷ []))
      steps-next a u rest known =
          let few = so_far.few in
          let longer = length-append before (a ∷ []) in
          let e : index_of names (word now) ≡ Some a = subst (λ x. index_of names x ≡ Some a) first known in
          let step = steps-more names now goes_on (256 - length before) (256 - length (before ++ (a ∷ []))) a (omega arith) e in
          record {
            few = omega arith;
            read = so_far.read ∙ (ap (after before) step ∙ (after-more before a _ ∙ ap (λ x. after (before ++ (a ∷ [])) (steps names (256 - length (before ++ (a ∷ []))) x)) (sym rest)));
          }
