-- The running value is the end of what the lines cover together, and following is one test of it after the last line. The width,
-- the fact count and the look are parameters. Assumes nothing.
use Rattle.model.proofs.Words.{◌≡◌, refl, sym, ap, ◌∙◌, subst, ◌↔◌, ◌⊎◌, List, [], ◌∷◌, ℕ, zero, suc, ◌+◌, ◌-◌, ◌^◌, ◌≤◌, ◌<◌, zero-le, arith, dec_lt, length, take, drop, eqb, eqb-true, Answer, refused, answered, Look, Line, refuse_at, ends, fault, follow, CoveredBy, CoveredOnce, CoversTo, cover_end, FaultAt, RunningEnd, first}
use Rattle.model.specs.Answer.{◌>>=◌}
use Rattle.model.proofs.Laws.Following.{refuse-at-answered, ends-answered, fault-none}
use Rattle.model.proofs.Laws.Tasks.{answer-then}

pub same-refusal : {f g p q : ℕ} → ◌≡◌ {A = Answer ℕ} (refused f p) (refused g q) → (f ≡ g) × (p ≡ q)
same-refusal e = (cc, cc)

module _ (w : ℕ) (look : ℕ → ℕ → Look) (n : ℕ) where
  -- ---- what is covered

  -- lines that are followed from x to e cover the numbers between, each once
  between :
      (ls : List Line) (i x e : ℕ) → cover_end w look n ls i x ≡ answered e →
      (x ≤ e) × ((y : ℕ) → ((x ≤ y) × (y < e)) ↔ CoveredBy w ls y) × CoveredOnce w ls
  unfolding cover_end
  between [] i x e h = let z : x ≡ e = cc in (omega arith, (λ y. ((λ (a, b). absurd (omega arith)), (λ c. absurd c))), tt)
  between (l ∷ ls) i x e h = grind (arith, (between ls (suc i)), refuse-at-answered, fault-none)

  pub covers-to : (ls : List Line) (e : ℕ) → cover_end w look n ls 0 0 ≡ answered e → CoversTo w ls e
  covers-to ls e h =
      let (_, there, once) = between ls 0 0 e h in
      let exactly : (x : ℕ) → (x < e) ↔ CoveredBy w ls x = λ x. ((λ a. (there x).0 (zero-le, a)), (λ c. ((there x).1 c).1)) in
      record {
        is_end = record { above = λ x c. (exactly x).1 c; least = λ d below. grind (arith, (exactly d), (below d)) };
        exactly = exactly;
        once = once;
      }

  -- ---- the lines before a fault

  pub next-line : (l : Line) (ls : List Line) (i x : ℕ) → fault w look n l x ≡ 0 → cover_end w look n (l ∷ ls) i x ≡ cover_end w look n ls (suc i) (x + 2 ^ (w - l.k))
  unfolding cover_end refuse_at
  next-line l ls i x e = rw (e, refuse_at)

  pub fault-line : (l : Line) (ls : List Line) (i x f : ℕ) → fault w look n l x ≡ f → 0 < f → cover_end w look n (l ∷ ls) i x ≡ refused f i
  unfolding cover_end refuse_at
  fault-line l ls i x f e h = grind arith

  -- lines among which no fault was found have a running value after the first i
  prefix :
      (ls : List Line) (j x i : ℕ) → ((f p : ℕ) → cover_end w look n ls j x ≡ refused f p → j + i ≤ p) →
      (e : ℕ) × (cover_end w look n (take i ls) j x ≡ answered e)
  unfolding cover_end
  prefix ls j x zero h = (x, refl)
  prefix [] j x (suc i) h = (x, refl)
  prefix (l ∷ ls) j x (suc i) h = grind (arith, (prefix ls (suc j) (x + 2 ^ (w - l.k)) i), fault-line, next-line)

  -- where the first fault is found, from line j and number x on
  found :
      {C : Type 0} (ls : List Line) (j x f p : ℕ) → cover_end w look n ls j x ≡ refused f p →
      ((i e : ℕ) (l : Line) (after : List Line) → p ≡ j + i → cover_end w look n (take i ls) j x ≡ answered e → drop i ls ≡ l ∷ after → fault w look n l e ≡ f → 0 < f → C) → C
  unfolding cover_end
  found [] j x f p h c = let z : ◌≡◌ {A = ℕ} 0 1 = cc in absurd (omega arith)
  found (l ∷ ls) j x f p h c =
      elim (dec_lt 0 (fault w look n l x)) [
        | yes q ↦ let (number, place) = same-refusal (sym (fault-line l ls j x _ refl q) ∙ h) in c 0 x l ls (omega arith) refl refl number (omega arith)
        | no q ↦
            let none : fault w look n l x ≡ 0 = omega arith in
            found ls (suc j) (x + 2 ^ (w - l.k)) f p (sym (next-line l ls j x none) ∙ h) λ i e m after place before stands is some.
            c (suc i) e m after (omega arith) (next-line l (take i ls) j x none ∙ before) stands is some
      ]

  pub fault-at : (ls : List Line) (f i : ℕ) → cover_end w look n ls 0 0 ≡ refused f i → FaultAt w look n ls f i
  fault-at ls f i h =
      found ls 0 0 f i h λ j e l after place before stands is some.
      let z : j ≡ i = omega arith in
      record { end = e; before = rw z at before; line = l; after = after; stands = rw z at stands; is = is; some = some }

  -- ---- following

  refuse-then : (c i : ℕ) (a : Answer ℕ) (k : ℕ → Answer ℕ) → refuse_at c i (a >>= k) ≡ refuse_at c i a >>= k
  unfolding refuse_at ◌>>=◌
  refuse-then c i a k = grind arith

  follow-ends : (ls : List Line) (i x : ℕ) → follow w look n ls i x ≡ cover_end w look n ls i x >>= λ e. ends (eqb e (2 ^ w)) (i + length ls)
  unfolding follow cover_end ◌>>=◌
  follow-ends [] i x = ap (ends (eqb x (2 ^ w))) (omega arith)
  follow-ends (l ∷ ls) i x = grind (arith, refuse-then, (follow-ends ls (suc i) (x + 2 ^ (w - l.k))))

  pub same_answers : (ls : List Line) → follow w look n ls 0 0 ≡ cover_end w look n ls 0 0 >>= λ e. ends (eqb e (2 ^ w)) (length ls)
  same_answers ls = grind (arith, (follow-ends ls 0 0))

  -- lines among which no fault was found have an end after the first i, which is that of what they cover
  pub end_kept :
      (ls : List Line) (i : ℕ) → ((f p : ℕ) → cover_end w look n ls 0 0 ≡ refused f p → i ≤ p) →
      (e : ℕ) × (cover_end w look n (take i ls) 0 0 ≡ answered e) × CoversTo w (take i ls) e
  end_kept ls i h = let (e, r) = prefix ls 0 0 i (λ f p g. omega (arith, h f p g)) in (e, r, covers-to (take i ls) e r)

  -- what is left is followed from the running value on
  continues :
      (ls : List Line) (j x i e : ℕ) → cover_end w look n (take i ls) j x ≡ answered e → i ≤ length ls →
      follow w look n ls j x ≡ follow w look n (drop i ls) (j + i) e
  unfolding cover_end follow refuse_at
  continues ls j x zero e h l = let z : x ≡ e = cc in rw z (ap (λ (k : ℕ). follow w look n ls k e) (omega arith))
  continues [] j x (suc i) e h l = absurd (omega arith)
  continues (l ∷ ls) j x (suc i) e h k = grind (arith, (continues ls (suc j) (x + 2 ^ (w - l.k)) i e))

  whole : (ls : List Line) (m : ℕ) → follow w look n ls 0 0 ≡ answered m → CoversTo w ls (2 ^ w)
  whole ls m h =
      answer-then (sym (same_answers ls) ∙ h) λ e r t.
      let z = eqb-true e (2 ^ w) (ends-answered _ (length ls) m t).0 in
      subst (CoversTo w ls) z (covers-to ls e r)

  -- a line past all of them begins elsewhere, if nothing else is wrong with it
  past-the-whole :
      (l : Line) → l.value < 2 ^ w →
      (fault w look n l (2 ^ w) ≡ 65) ⊎ ((fault w look n l (2 ^ w) ≡ 66) ⊎ ((fault w look n l (2 ^ w) ≡ 67) ⊎ (fault w look n l (2 ^ w) ≡ 68)))
  unfolding fault first
  past-the-whole l h = grind (arith, eqb-true)

  pub running-end : RunningEnd w look n
  unfolding ◌>>=◌
  running-end =
      record {
        is_end = λ ls i h. grind (arith, (end_kept ls i), (same_answers ls), (continues ls 0 0 i));
        at_fault = fault-at;
        same_answers = same_answers;
        passes_whole = whole;
        past_the_whole = past-the-whole;
      }
