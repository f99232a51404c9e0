-- The steps of reading a whole text, and the block of its problem.
use Rattle.std.proofs.Common.{◌≡◌, ℕ, ◌<◌, ◌≤◌, eqb, leb, length, List, [], ◌∷◌, ◌++◌, map, codes, true, false, Option, Some, None, refl, sym, ◌∙◌, subst, rules, tests}
use Rattle.std.proofs.lemmas.List.{length-map}
use Rattle.std.specs.Str.{bytes_eq}
use Rattle.model.specs.declared.Limits.{Limits}
use Rattle.model.specs.Formula.{Formula}
use Rattle.model.specs.FormulaBytes.{encode_formula}
use Rattle.model.specs.Read.{block}
use Rattle.model.specs.ProblemBytes.{actions_bytes, encode_problem}
use Rattle.words.specs.Words.{word, after_word, left_at}
use Rattle.make.specs.Parsed.{Parsed, bad, got, and_then, ◌>>=◌, ◌>>◌, done, here, peek, require}
use Rattle.make.specs.FormulaText.{formula}
use Rattle.make.specs.SourceText.{NamedAction, action_names, key, version, facts, actions, steps, plan, Source, problem_with, rest, source}
use Rattle.words.specs.declared.complaint.Complaint.{Complaint}
use Rattle.words.specs.declared.complaint.Complaint.TheVariants.{NoStart, NoGoal, NoFact, WordLeft, TooLong}
use Rattle.make.proofs.Parsing.{mapped}

-- ---- the plan

module _ (names : List (List ℕ)) (t w : List ℕ) (first : w ≡ word t) where
  pub plan-none : bytes_eq w (codes "plan") ≡ false → plan names t ≡ got None t
  unfolding plan
  plan-none other =
      let e : bytes_eq (word t) (codes "plan") ≡ false = subst (λ x. bytes_eq x (codes "plan") ≡ false) first other in
      rw e refl

  pub plan-steps : (u : List ℕ) → u ≡ after_word t → bytes_eq w (codes "plan") ≡ true → plan names t ≡ mapped (λ bs. Some bs) (steps names 256 u)
  unfolding plan and_then done
  plan-steps u after here =
      let e : bytes_eq (word t) (codes "plan") ≡ true = subst (λ x. bytes_eq x (codes "plan") ≡ true) first here in
      rw (after, e) (last (steps names 256 (after_word t)))
    where
      last : (r : Parsed (List ℕ)) → and_then r (λ bs. done (Some bs)) ≡ mapped (λ bs. Some bs) r
      last (bad c q) = refl
      last (got bs v) = refl

-- ---- what follows the facts

abbrev pub source_with : Limits → List (List ℕ) → Formula → Formula → List NamedAction → Option (List ℕ) → Source
source_with F names initial goal as' p = record { limits = F; problem = problem_with names initial goal as'; plan = p }

module _ (F : Limits) (names : List (List ℕ)) (t k : List ℕ) (start : k ≡ codes "start") where
  pub rest-no_start : (c : Complaint) (q : ℕ) → key k NoStart t ≡ bad c q → rest F names t ≡ bad c q
  unfolding rest ◌>>=◌ ◌>>◌ and_then
  rest-no_start c q wrong =
      let e : key (codes "start") NoStart t ≡ bad c q = subst (λ x. key x NoStart t ≡ bad c q) start wrong in
      rw e refl

  module _ (a : Unit {0}) (t₁ : List ℕ) (e₁ : key k NoStart t ≡ got a t₁) where
    f₁ : key (codes "start") NoStart t ≡ got a t₁
    f₁ = subst (λ x. key x NoStart t ≡ got a t₁) start e₁

    pub rest-initial : (c : Complaint) (q : ℕ) → formula names t₁ ≡ bad c q → rest F names t ≡ bad c q
    unfolding rest ◌>>=◌ ◌>>◌ and_then
    rest-initial c q wrong = rw f₁ (rw wrong refl)

    module _ (initial : Formula) (t₂ : List ℕ) (e₂ : formula names t₁ ≡ got initial t₂) (l : List ℕ) (the_goal : l ≡ codes "goal") where
      pub rest-no_goal : (c : Complaint) (q : ℕ) → key l NoGoal t₂ ≡ bad c q → rest F names t ≡ bad c q
      unfolding rest ◌>>=◌ ◌>>◌ and_then
      rest-no_goal c q wrong =
          let e : key (codes "goal") NoGoal t₂ ≡ bad c q = subst (λ x. key x NoGoal t₂ ≡ bad c q) the_goal wrong in
          rw f₁ (rw e₂ (rw e refl))

      module _ (b : Unit {0}) (t₃ : List ℕ) (e₃ : key l NoGoal t₂ ≡ got b t₃) where
        f₃ : key (codes "goal") NoGoal t₂ ≡ got b t₃
        f₃ = subst (λ x. key x NoGoal t₂ ≡ got b t₃) the_goal e₃

        pub rest-goal : (c : Complaint) (q : ℕ) → formula names t₃ ≡ bad c q → rest F names t ≡ bad c q
        unfolding rest ◌>>=◌ ◌>>◌ and_then
        rest-goal c q wrong = rw f₁ (rw e₂ (rw f₃ (rw wrong refl)))

        module _ (goal : Formula) (t₄ : List ℕ) (e₄ : formula names t₃ ≡ got goal t₄) where
          pub rest-actions : (c : Complaint) (q : ℕ) → actions F names 64 [] t₄ ≡ bad c q → rest F names t ≡ bad c q
          unfolding rest ◌>>=◌ ◌>>◌ and_then
          rest-actions c q wrong = rw f₁ (rw e₂ (rw f₃ (rw e₄ (rw wrong refl))))

          module _ (as' : List NamedAction) (t₅ : List ℕ) (e₅ : actions F names 64 [] t₄ ≡ got as' t₅) (ns : List (List ℕ)) (named : ns ≡ action_names as') where
            pub rest-plan : (c : Complaint) (q : ℕ) → plan ns t₅ ≡ bad c q → rest F names t ≡ bad c q
            unfolding rest ◌>>=◌ ◌>>◌ and_then
            rest-plan c q wrong =
                let e : plan (action_names as') t₅ ≡ bad c q = subst (λ x. plan x t₅ ≡ bad c q) named wrong in
                rw f₁ (rw e₂ (rw f₃ (rw e₄ (rw e₅ (rw e refl)))))

            module _ (p : Option (List ℕ)) (u w : List ℕ) (e₆ : plan ns t₅ ≡ got p u) (first : w ≡ word u) where
              -- the text is read, and what is left is tested
              ending : Parsed Source
              ending =
                  and_then
                  (require (eqb (length (word u)) 0) WordLeft (left_at u) u)
                  (λ a. require (leb (length (encode_problem F (problem_with names initial goal as'))) 32768) TooLong (left_at u) >>= (λ b. done (source_with F names initial goal as' p)))

              rest-read : rest F names t ≡ ending
              unfolding rest ending ◌>>=◌ ◌>>◌ and_then here peek
              rest-read =
                  let f₆ : plan (action_names as') t₅ ≡ got p u = subst (λ x. plan x t₅ ≡ got p u) named e₆ in
                  rw f₁ (rw e₂ (rw f₃ (rw e₄ (rw e₅ (rw f₆ refl)))))

              pub rest-left : eqb (length w) 0 ≡ false → rest F names t ≡ bad WordLeft (left_at u)
              unfolding ending require and_then
              rest-left some =
                  let e : eqb (length (word u)) 0 ≡ false = subst (λ x. eqb (length x) 0 ≡ false) first some in
                  rest-read ∙ rw e refl

              module _ (none : eqb (length w) 0 ≡ true) where
                ends : eqb (length (word u)) 0 ≡ true
                ends = subst (λ x. eqb (length x) 0 ≡ true) first none

                pub rest-long : 32768 < length (encode_problem F (problem_with names initial goal as')) → rest F names t ≡ bad TooLong (left_at u)
                unfolding ending require and_then ◌>>=◌ done
                rest-long long =
                    let e : leb (length (encode_problem F (problem_with names initial goal as'))) 32768 ≡ false = search (tests, rules) in
                    rest-read ∙ rw ends (rw e refl)

                pub rest-good : length (encode_problem F (problem_with names initial goal as')) ≤ 32768 → rest F names t ≡ got (source_with F names initial goal as' p) u
                unfolding ending require and_then ◌>>=◌ done
                rest-good short =
                    let e : leb (length (encode_problem F (problem_with names initial goal as'))) 32768 ≡ true = search (tests, rules) in
                    rest-read ∙ rw ends (rw e refl)

-- ---- the whole

module _ (t : List ℕ) where
  pub source-version : (c : Complaint) (q : ℕ) → version t ≡ bad c q → source t ≡ bad c q
  unfolding source ◌>>=◌ and_then
  source-version c q wrong = rw wrong refl

  module _ (F : Limits) (u : List ℕ) (e₁ : version t ≡ got F u) where
    pub source-facts : (c : Complaint) (q : ℕ) → facts F.facts [] u ≡ bad c q → source t ≡ bad c q
    unfolding source ◌>>=◌ and_then here
    source-facts c q wrong = rw e₁ (rw wrong refl)

    module _ (names : List (List ℕ)) (v : List ℕ) (e₂ : facts F.facts [] u ≡ got names v) (n : ℕ) (count : n ≡ length names) where
      pub source-none : eqb n 0 ≡ true → source t ≡ bad NoFact (left_at u)
      unfolding source ◌>>=◌ ◌>>◌ and_then here require
      source-none none =
          let e : eqb (length names) 0 ≡ true = subst (λ x. eqb x 0 ≡ true) count none in
          rw e₁ (rw e₂ (rw e refl))

      pub source-rest : eqb n 0 ≡ false → source t ≡ rest F names v
      unfolding source ◌>>=◌ ◌>>◌ and_then here require
      source-rest some =
          let e : eqb (length names) 0 ≡ false = subst (λ x. eqb x 0 ≡ false) count some in
          rw e₁ (rw e₂ (rw e refl))

-- ---- the block

pub problem-block :
    (F : Limits) (names : List (List ℕ)) (initial goal : Formula) (as' : List NamedAction) (n m : ℕ) (x y z : List ℕ) →
    n ≡ length names → m ≡ length as' → x ≡ encode_formula initial → y ≡ encode_formula goal → z ≡ actions_bytes (map (λ a. a.action) as') →
    block F.version (n ∷ m ∷ (x ++ (y ++ z))) ≡ encode_problem F (problem_with names initial goal as')
unfolding encode_problem
problem-block F names initial goal as' n m x y z e₁ e₂ e₃ e₄ e₅ =
    let count : m ≡ length (map (λ a. a.action) as') = e₂ ∙ sym (length-map as' (λ a. a.action)) in
    rw (e₁, count, e₃, e₄, e₅) refl
