-- What a narrower start leaves of solutions, of lists that pass and of walks that close. Assumes nothing.
use Rattle.std.proofs.Common.{◌≡◌, refl, Bool, ◌⊎◌, inl, List, [], ◌∷◌, ◌++◌, ℕ, zero, suc, ◌+◌, ◌-◌, ◌^◌, ◌≤◌, ◌<◌, length, arith, length-append}
use Rattle.model.specs.Formula.{Formula}
use Rattle.model.specs.Action.{Action}
use Rattle.model.specs.Belief.{Belief, Image, Solution}
use Rattle.model.specs.Answer.{refused, answered}
use Rattle.model.specs.Walk.{Kind, Look, closed, opened, Line, line, Walked, covered, walk_from, join}
use Rattle.model.specs.CaseList.{follow, fault, first, refuse_at, ends}

-- a solution from a belief is one from every belief in it
pub solution-narrows :
    (n : ℕ) (goal : Formula) (plan : List Action) (B B' : Belief) → ((s : List Bool) → B' s → B s) → Solution n B goal plan → Solution n B' goal plan
solution-narrows n goal [] B B' i h = (tt, λ s b. h.1 s (i s b))
solution-narrows n goal (a ∷ plan) B B' i h =
    let inner : (t : List Bool) → Image n a B' t → Image n a B t = λ t m. record { size = m.size; before = m.before; held = i m.before m.held; moves = m.moves } in
    let r = solution-narrows n goal plan (Image n a B) (Image n a B') inner (h.0.1, h.1) in
    ((((λ s b. h.0.0.0 s (i s b)), (λ s b. h.0.0.1 s (i s b))), r.0), r.1)

module _ (w n : ℕ) (look look' : ℕ → ℕ → Look) where
  -- no fault becomes none, or that the claim is not so
  fault-becomes : (l : Line) (x : ℕ) → fault w look n l x ≡ 0 → (fault w look' n l x ≡ 0) ⊎ (fault w look' n l x ≡ 69)
  unfolding fault first
  fault-becomes l x e = grind arith

  -- as many lines are counted as there are
  follow-counts : (ls : List Line) (i x m : ℕ) → follow w look n ls i x ≡ answered m → i ≤ m
  unfolding follow ends refuse_at
  follow-counts [] i x m e = grind arith
  follow-counts (l ∷ ls) i x m e = grind (arith, (follow-counts ls (suc i) (x + 2 ^ (w - l.k)) m))

  pub follow-becomes :
      (ls : List Line) (i x m : ℕ) → follow w look n ls i x ≡ answered m →
      (follow w look' n ls i x ≡ answered m) ⊎ ((j : ℕ) × (j < m) × (follow w look' n ls i x ≡ refused 69 j))
  unfolding follow ends refuse_at
  follow-becomes [] i x m e = inl e
  follow-becomes (l ∷ ls) i x m e =
      let y = x + 2 ^ (w - l.k) in
      grind (arith, (fault-becomes l x), (follow-becomes ls (suc i) y m), (follow-counts ls (suc i) y m))

module _ (w : ℕ) (look look' : ℕ → ℕ → Look) (keeps : (k v : ℕ) (κ : Kind) → look k v ≡ closed κ → (κ' : Kind) × (look' k v ≡ closed κ')) where
  -- a walk closes with no more lines and visits than these
  abbrev Within : Walked → ℕ → ℕ → Type 0
  Within r lines used = (ls : List Line) × (a : ℕ) × (r ≡ covered ls a) × (length ls ≤ lines) × (a ≤ used)

  -- so does that of a case which is closed at once
  within-closed : (d k v : ℕ) (κ : Kind) (lines used : ℕ) → look' k v ≡ closed κ → 1 ≤ lines → 1 ≤ used → Within (walk_from w look' d (look' k v) k v) lines used
  unfolding walk_from
  within-closed zero k v κ lines used e l u = (line κ k v ∷ [], 1, rw e refl, omega arith, omega arith)
  within-closed (suc d) k v κ lines used e l u = (line κ k v ∷ [], 1, rw e refl, omega arith, omega arith)

  -- a split case's two parts
  join-covered :
      (r q : Walked) (ls : List Line) (a : ℕ) → join r q ≡ covered ls a →
      (ms ns : List Line) × (b c : ℕ) × (r ≡ covered ms b) × (q ≡ covered ns c) × (length ls ≡ length ms + length ns) × (a ≡ suc (b + c))
  join-covered r q ls a e = grind (arith, length-append)

  within-join : (r q : Walked) (lines used lines' used' : ℕ) → Within r lines used → Within q lines' used' → Within (join r q) (lines + lines') (suc (used + used'))
  within-join r q lines used lines' used' R Q =
      let (ls, a, e, l, u) = R in
      let (ms, b, f, m, x) = Q in
      (ls ++ ms, suc (a + b), rw (e, f) refl, omega (arith, length-append ls ms, l, m), omega (arith, u, x))

  within-more : (r : Walked) (lines used lines' used' : ℕ) → lines ≤ lines' → used ≤ used' → Within r lines used → Within r lines' used'
  within-more r lines used lines' used' l u (ls, a, e, m, x) = (ls, a, e, omega (arith, l, m), omega (arith, u, x))

  -- a walk that closes has a line
  some-line : (d k v : ℕ) (o : Look) (ls : List Line) (a : ℕ) → walk_from w look d o k v ≡ covered ls a → (1 ≤ length ls) × (1 ≤ a)
  unfolding walk_from
  some-line zero k v (closed κ) ls a e = grind arith
  some-line zero k v opened ls a e = grind arith
  some-line (suc d) k v (closed κ) ls a e = grind arith
  some-line (suc d) k v opened ls a e =
      let m = v + 2 ^ (w - suc k) in
      let (ms, ns, b, c, r, q, l, u) = join-covered _ _ ls a e in
      let f = some-line d (suc k) v (look (suc k) v) ms b r in
      (omega (arith, l, f.0), omega (arith, u))

  -- what the second look makes of a case whose parts close within these
  split-within :
      (d k v lines used : ℕ) (o : Look) → look' k v ≡ o → 1 ≤ lines → 1 ≤ used →
      (let m = v + 2 ^ (w - suc k) in Within (join (walk_from w look' d (look' (suc k) v) (suc k) v) (walk_from w look' d (look' (suc k) m) (suc k) m)) lines used) →
      Within (walk_from w look' (suc d) (look' k v) k v) lines used
  unfolding walk_from
  split-within d k v lines used opened h l u W = rw h W
  split-within d k v lines used (closed κ) h l u W = within-closed (suc d) k v κ lines used h l u

  within-from :
      (d k v : ℕ) (o : Look) → look k v ≡ o → (ls : List Line) (a : ℕ) → walk_from w look d o k v ≡ covered ls a →
      Within (walk_from w look' d (look' k v) k v) (length ls) a
  unfolding walk_from
  within-from zero k v opened h ls a e = grind arith
  within-from zero k v (closed κ) h ls a e =
      let (κ', h') = keeps k v κ h in let s = some-line zero k v (closed κ) ls a e in within-closed zero k v κ' (length ls) a h' s.0 s.1
  within-from (suc d) k v (closed κ) h ls a e =
      let (κ', h') = keeps k v κ h in let s = some-line (suc d) k v (closed κ) ls a e in within-closed (suc d) k v κ' (length ls) a h' s.0 s.1
  within-from (suc d) k v opened h ls a e =
      let m = v + 2 ^ (w - suc k) in
      let (ms, ns, b, c, r, q, l, u) = join-covered _ _ ls a e in
      let s = some-line (suc d) k v opened ls a e in
      let R = within-from d (suc k) v (look (suc k) v) refl ms b r in
      let Q = within-from d (suc k) m (look (suc k) m) refl ns c q in
      let both = within-more _ _ _ (length ls) a (omega (arith, l)) (omega (arith, u)) (within-join _ _ (length ms) b (length ns) c R Q) in
      split-within d k v (length ls) a (look' k v) refl s.0 s.1 both

  -- where whatever was closed is closed, a walk that closes does so with no more lines and visits
  pub walk-within :
      (d k v : ℕ) (ls : List Line) (a : ℕ) → walk_from w look d (look k v) k v ≡ covered ls a → Within (walk_from w look' d (look' k v) k v) (length ls) a
  walk-within d k v = within-from d k v (look k v) refl
