-- What a refusal of a merge is of: each test that refuses names its limit, and the tests before it hold. Assumes nothing.
use Rattle.std.proofs.Common.{◌≡◌, sym, ap, subst₂, ◌∙◌, ◌⊎◌, inl, inr, Bool, true, false, cond, ◌||◌, List, ℕ, ◌+◌, ◌<◌, arith, length, ltb, ltb-true, ltb-false}
use Rattle.model.specs.Limits.{version2, limits_of, max_facts, max_actions, max_problem_bytes}
use Rattle.model.specs.Answer as Answer
use Rattle.model.specs.Answer.{Answer, refused, answered}
use Rattle.model.specs.ProblemBytes.{Problem, problem_of, encode_problem}
use Rattle.model.specs.WellFormed.{Bytes, ProblemOk}
use Rattle.model.specs.Merging.{is_over, halls, sized, roomy, merged_for}
use Rattle.model.proofs.Laws.Tasks.{refusal-of}
use Rattle.model.proofs.Laws.Truth.{or_cases, or-false}
use Rattle.merge.specs.Promise.{Reads, RefusedFor, by_first, by_second, by_facts, by_actions, by_formula, by_bytes, by_room}
use Rattle.merge.proofs.Together.{holds-of-both}
use Rattle.merge.proofs.Sound.{halls-count}

-- a test that refuses, or the refusal is of what follows it
tested :
    {A : Type 0} {n place k at : ℕ} (b : Bool) (x : Answer A) → cond b (refused k at) x ≡ refused n place →
    ((b ≡ true) × (k ≡ n) × (at ≡ place)) ⊎ ((b ≡ false) × (x ≡ refused n place))
tested b x e = grind arith

no-refusal : {A : Type 0} {n place : ℕ} (x : A) → answered x ≡ refused n place → ⊥
no-refusal x e = grind arith

-- an answer is the problem that was asked of
pub sized-same : (r s : Problem) → sized r ≡ answered s → r ≡ s
unfolding sized
sized-same r s e = grind arith

module _ (first second : List ℕ) (b : Bytes first) (b' : Bytes second) (room places : ℕ) where
  abbrev For : ℕ → ℕ → Type 0
  For = RefusedFor first second room places

  -- the refusal's numbers are those of the test
  numbered : {k at n place : ℕ} → k ≡ n → at ≡ place → For k at → For n place
  numbered e h x = subst₂ For e h x

  module _ (p q : Problem) (reads : Reads first second p q) where
    size-refused : (n place : ℕ) → sized (halls p q) ≡ refused n place → For n place
    unfolding sized
    size-refused n place e = elim (tested (ltb max_facts (halls p q).facts) _ e) [
      | inl (t, k, l) ↦ numbered k l (by_facts p q reads (ltb-true _ _ t))
      | inr (f, e₁) ↦ elim (tested (ltb max_actions (length (halls p q).actions)) _ e₁) [
        | inl (t, k, l) ↦ numbered k l (by_actions p q reads (ltb-false _ _ f) (omega (arith, ltb-true _ _ t, halls-count p q)))
        | inr (g, e₂) ↦ elim (tested (is_over (halls p q).initial || is_over (halls p q).goal) _ e₂) [
          | inl (t, k, l) ↦
              numbered k l
              (by_formula p q reads (ltb-false _ _ f) (omega (arith, ltb-false _ _ g, halls-count p q)) (or_cases _ _ t))
          | inr (o, e₃) ↦ elim (tested (ltb max_problem_bytes (length (encode_problem version2 (halls p q)))) _ e₃) [
            | inl (t, k, l) ↦
                let (i, j) = or-false _ _ o in
                numbered k l (by_bytes p q reads (ltb-false _ _ f) (omega (arith, ltb-false _ _ g, halls-count p q)) i j (ltb-true _ _ t))
            | inr (_, e₄) ↦ absurd (no-refusal (halls p q) e₄)
          ]
        ]
      ]
    ]

    room-refused : (n place : ℕ) → sized (halls p q) ≡ answered (halls p q) → roomy room places (halls p q) ≡ refused n place → For n place
    unfolding roomy
    room-refused n place s e =
        elim (tested (ltb room (length (encode_problem version2 (halls p q))) || ltb places (length (halls p q).actions)) _ e) [
          | inl (t, k, l) ↦ numbered k l (by_room p q reads sound (short t))
          | inr (_, e₁) ↦ absurd (no-refusal (halls p q) e₁)
        ]
      where
        sound : ProblemOk version2 (halls p q)
        sound = (holds-of-both first second b b' p q reads).exactly.0 s

        short :
            (ltb room (length (encode_problem version2 (halls p q))) || ltb places (length (halls p q).actions)) ≡ true →
            (room < length (encode_problem version2 (halls p q))) ⊎ (places < length p.actions + length q.actions)
        short t = elim (or_cases _ _ t) [
          | inl x ↦ inl (ltb-true _ _ x)
          | inr y ↦ inr (omega (arith, ltb-true _ _ y, halls-count p q))
        ]

    both-refused : (n place : ℕ) → Answer.◌>>=◌ (sized (halls p q)) (roomy room places) ≡ refused n place → For n place
    both-refused n place e = elim (refusal-of (sized (halls p q)) e) [
      | inl x ↦ size-refused n place x
      | inr (r, x, y) ↦
          let same = sized-same (halls p q) r x in
          room-refused n place (x ∙ ap answered (sym same)) (ap (roomy room places) same ∙ y)
    ]

  pub refused-for : (n place : ℕ) → merged_for first second room places ≡ refused n place → For n place
  unfolding merged_for
  refused-for n place e = elim (refusal-of (problem_of (limits_of first) first) e) [
    | inl x ↦ by_first n place x
    | inr (p, r, e₁) ↦ elim (refusal-of (problem_of (limits_of second) second) e₁) [
      | inl y ↦ by_second p n place r y
      | inr (q, r', e₂) ↦ both-refused p q (record { reads_first = r; reads_second = r' }) n place e₂
    ]
  ]
