-- Reading a problem or a plan is exactly the inverse of writing it. Assumes nothing.
use Rattle.model.proofs.Words.{◌≡◌, refl, sym, ap, subst, List, [], ◌∷◌, ℕ, zero, suc, ◌+◌, ◌-◌, ◌≤◌, ◌<◌, arith, length, leb-true, Limits, max_actions, max_steps, max_problem_bytes, answered, Effect, Action, got, and_then, ◌>>=◌, ◌>>◌, done, position, require, counted, answer_of, literal_byte, encode_formula, Problem, effect, effects, effect_list, action, actions, ending, parts, body, problem, problem_of, steps, plan, plan_of, effects_bytes, action_bytes, actions_bytes, encode_problem, encode_plan, Bytes, Each, Declared, FormulaOk, EffectsOk, ActionOk, ProblemOk, PlanOk, Sensible}
use Rattle.model.proofs.Laws.Spans.{Span, nothing, next}
use Rattle.model.proofs.Laws.Reading.{Gives, gives, reads, ends, tests, empty, first, join, split, span-length, span-end, byte-gives, byte-ok, length-block, lets-version, header-gives, header_ok, count_gives, count-ok}
use Rattle.model.proofs.Laws.FormulaCodec.{literal-got, literal-ok, formula-gives, formula-ok}

module _ (s : List ℕ) (facts : ℕ) (most : facts ≤ 64) where
  effect-gives :
      Bytes s → (least p : ℕ) →
      Gives (effect s facts least p) λ e q.
      Declared facts e.literal × (least ≤ literal_byte e.literal) × FormulaOk facts e.condition ×
      Span s (length s) p (literal_byte e.literal ∷ encode_formula e.condition) q
  unfolding effect ◌>>=◌ ◌>>◌ and_then position done
  effect-gives sound least p =
      reads (byte-gives 14 p) λ b m r.
      tests _ _ _ _ _ λ t.
      tests _ _ _ _ _ λ u.
      reads (formula-gives s facts most sound m) λ f o (k, v). grind (arith, literal-got, gives, join)

  effects-give :
      Bytes s → (n least p : ℕ) →
      Gives (effects s facts n least p) (λ es q. EffectsOk facts least es × Span s (length s) p (effects_bytes es) q × (length es ≡ n))
  unfolding effects ◌>>=◌ and_then done effects_bytes
  effects-give sound zero least p = gives (tt, nothing refl, refl)
  effects-give sound (suc n) least p =
      reads (effect-gives sound least p) λ e m (a, b, c, r).
      reads (effects-give sound n (literal_byte e.literal + 1) m) λ rest o (d, v, i).
      gives ((a, b, c, d), join r v, ap suc i)

  pub effects-ok :
      (es : List Effect) (least p q : ℕ) → EffectsOk facts least es →
      Span s (length s) p (effects_bytes es) q → effects s facts (length es) least p ≡ got es q
  unfolding effects effect ◌>>=◌ ◌>>◌ and_then position done effects_bytes require
  effects-ok [] least p q d r = rw (empty r)
  effects-ok (e ∷ es) least p q (d, l, f, k) r =
      let (_, _, v) = first r in
      split (encode_formula e.condition) v λ m a b.
      grind (arith, literal-ok, (byte-ok 14 r), (formula-ok s facts most (p + 1) e.condition m f a), (effects-ok es (literal_byte e.literal + 1) m q k b))

module _ (F : Limits) (s : List ℕ) (facts : ℕ) (most : facts ≤ 64) where
  action-gives : Bytes s → (p : ℕ) → Gives (action F s facts p) (λ a q. ActionOk F facts a × Span s (length s) p (action_bytes a) q)
  unfolding action effect_list ◌>>=◌ and_then done action_bytes
  action-gives sound p =
      reads (formula-gives s facts most sound p) λ f m (a, b).
      reads
      {P = λ es q. (length es ≤ F.effects) × EffectsOk facts 0 es × Span s (length s) m (length es ∷ effects_bytes es) q}
      (reads (count_gives s 22 0 F.effects m) λ n o (_, c, d).
      ends (effects-give s facts most sound n 0 o) λ es v (e, k, i). (rw i c, e, rw i (join d k)))
      λ es v (c, e, k).
      gives (record { precondition = a; count = c; effects = e }, join b k)

  pub action-got :
      (p : ℕ) (a : Action) (q : ℕ) → Bytes s → action F s facts p ≡ got a q →
      ActionOk F facts a × Span s (length s) p (action_bytes a) q
  action-got p a q sound e = (action-gives sound p).of a q e

  pub action-ok :
      (p : ℕ) (a : Action) (q : ℕ) → ActionOk F facts a → Span s (length s) p (action_bytes a) q →
      action F s facts p ≡ got a q
  unfolding action effect_list ◌>>=◌ and_then done action_bytes
  action-ok p a q k r =
      split (encode_formula a.precondition) r λ m b c.
      let (_, _, v) = first c in
      grind (arith, (formula-ok s facts most p a.precondition m k.precondition b), (count-ok s 22 0 F.effects m (omega arith) k.count c), (effects-ok s facts most a.effects 0 (m + 1) q k.effects v))

  actions-give :
      Bytes s → (n p : ℕ) →
      Gives (actions F s facts n p) λ as' q.
      Each (ActionOk F facts) as' × Span s (length s) p (actions_bytes as') q × (length as' ≡ n)
  unfolding actions ◌>>=◌ and_then done actions_bytes
  actions-give sound zero p = gives (tt, nothing refl, refl)
  actions-give sound (suc n) p = grind (arith, (actions-give sound n), (action-gives sound p), gives, join)

  pub actions-ok :
      (as' : List Action) (p q : ℕ) → Each (ActionOk F facts) as' → Span s (length s) p (actions_bytes as') q →
      actions F s facts (length as') p ≡ got as' q
  unfolding actions ◌>>=◌ and_then done actions_bytes
  actions-ok [] p q k r = rw (empty r)
  actions-ok (a ∷ as') p q (k, l) r =
      split (action_bytes a) r λ m b c. rw (action-ok p a m k b, actions-ok as' m q l c)

module _ (F : Limits) (sense : Sensible F) (s : List ℕ) where
  pub problem-gives : Bytes s → Gives (problem F s 0) (λ x q. ProblemOk F x × (s ≡ encode_problem F x))
  unfolding problem body parts ending ◌>>=◌ ◌>>◌ and_then position done encode_problem
  problem-gives sound =
      reads (header-gives s 10 max_problem_bytes F.version _ (lets-version s F.version 12) 0 sound) λ _ m (i, l, z, law).
      reads (count_gives s 15 1 F.facts m) λ facts m₁ (f₀, f₁, rf).
      reads (count_gives s 16 0 max_actions m₁) λ n m₂ (_, a₁, ra).
      let most : facts ≤ 64 = omega (arith, sense.facts) in
      reads (formula-gives s facts most sound m₂) λ start m₃ (ks, rs).
      reads (formula-gives s facts most sound m₃) λ goal m₄ (kg, rg).
      reads (actions-give F s facts most sound n m₄) λ acts m₅ (kn, rn, e).
      tests _ _ _ _ _ λ t.
      let v : Span s (length s) m₁ (length acts ∷ []) m₂ = rw e ra in
      let w = join rf (join v (join rs (join rg rn))) in
      let b : m₅ ≡ length s = omega (arith, leb-true (length s) m₅ t, span-end w (omega arith)) in
      let whole = law _ (rw (i, b) at w) in
      let count : length acts ≤ max_actions = rw e a₁ in
      let short = subst (λ (xs : List ℕ). length xs ≤ max_problem_bytes) whole l in
      gives (search, whole)

  pub problem-ok : (x : Problem) → ProblemOk F x → s ≡ encode_problem F x → problem_of F s ≡ answered x
  unfolding problem_of answer_of problem body parts ending ◌>>=◌ ◌>>◌ and_then position done encode_problem require
  problem-ok x k e =
      let most : x.facts ≤ 64 = omega (arith, k.facts, sense.facts) in
      let l : length s ≤ max_problem_bytes = subst (λ (xs : List ℕ). length xs ≤ max_problem_bytes) (sym e) k.short in
      let (h, w) = header_ok s 10 max_problem_bytes F.version _ (lets-version s F.version 12) 0 _ e l (omega arith) in
      let (_, _, w₁) = first w in
      let (_, _, w₂) = first w₁ in
      split (encode_formula x.initial) w₂ λ m a r.
      split (encode_formula x.goal) r λ o b c.
      grind (arith, h, (count-ok s 15 1 F.facts 5 k.some_fact k.facts w), (count-ok s 16 0 max_actions 6 (omega arith) k.count w₁), (formula-ok s x.facts most 7 x.initial m k.initial a), (formula-ok s x.facts most m x.goal o k.goal b), (actions-ok F s x.facts most x.actions o (length s) k.actions c))

-- plans
module _ (s : List ℕ) where
  steps-give :
      (m n p : ℕ) → p + n ≤ length s →
      Gives (steps s m n p) (λ bs q. Each (λ b. b < m) bs × Span s (length s) p bs q × (q ≡ p + n))
  unfolding steps counted ◌>>=◌ ◌>>◌ and_then position done
  steps-give m zero p l = gives (tt, nothing refl, omega arith)
  steps-give m (suc n) p l = grind (arith, tests, gives, next, (steps-give m n (p + 1) (omega arith)))

  pub steps-ok :
      (m : ℕ) (bs : List ℕ) (p q : ℕ) → Each (λ b. b < m) bs → Span s (length s) p bs q → steps s m (length bs) p ≡ got bs q
  unfolding steps counted ◌>>=◌ ◌>>◌ and_then position done require
  steps-ok m [] p q k r = rw (empty r)
  steps-ok m (b ∷ bs) p q (l, k) r = grind (arith, (steps-ok m bs (p + 1) q k), first)

  pub plan-gives : (m : ℕ) → Bytes s → Gives (plan s m 0) (λ bs q. PlanOk m bs × (s ≡ encode_plan bs) × (q ≡ length s))
  unfolding plan ◌>>◌ encode_plan
  plan-gives m sound =
      reads (header-gives s 30 (5 + max_steps) 1 _ (lets-version s 1 32) 0 sound) λ _ o (i, l, z, law).
      ends (steps-give m (length s - 5) o (omega arith)) λ bs q (a, b, c). grind (arith, span-length, law)

  pub plan-ok : (m : ℕ) (bs : List ℕ) → PlanOk m bs → s ≡ encode_plan bs → plan_of s m ≡ answered bs
  unfolding plan_of answer_of plan ◌>>◌ encode_plan and_then
  plan-ok m bs k e = grind (arith, (length-block 1 bs), (header_ok s 30 (5 + max_steps) 1), (lets-version s 1 32), (steps-ok m bs 5 (length s) k.actions))
