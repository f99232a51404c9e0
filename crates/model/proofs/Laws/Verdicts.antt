-- What a verdict means: Kleene soundness and exactness for cases, and what the walk's two endings say of the start states.
-- Assumes nothing.
use Rattle.model.proofs.Words.{◌≡◌, refl, sym, ap, ◌∙◌, subst, true, false, ◌≢◌, ◌⊎◌, inl, inr, List, [], append-nil, ℕ, suc, ◌+◌, ◌-◌, ◌*◌, ◌^◌, ◌≤◌, ◌<◌, zero-le, arith, length, lt-ltb, le-leb, lt-leb, Kleene, No, Yes, is_yes, known, two, three, Formula, eval, Action, Outcome, reached, run, bit, state_of, case_of, Task, run_of, initially, Right, KleeneSound, Kind, closed, opened, Line, Walked, covered, failed, visits, look_of, Verdict, right, wrong, undecided, initial_at, run_at, look_at, walked, found, judged, LowestFailing}
use Rattle.model.proofs.Laws.Agreement.{Along, eval-keeps, tabulate-keeps, run-keeps, run-same, Refines, wider, refining, refines-yes, Exact, exact, yes-exact, known-inj, refines-known}
use Rattle.model.proofs.Laws.Cover.{Block, agree, Traced, walk-traced, fails-at, covering, Follows, closes-follows, closes-visits, fewest, root-span}

module _ (w n : ℕ) where
  -- the state s, or the case of v, has the first k values of v
  abbrev pub Admits : ℕ → ℕ → ℕ → Type 0
  Admits k v s = (i : ℕ) → i < k → bit w s i ≡ bit w v i

  case-refines : (k v k' v' : ℕ) → k ≤ k' → Admits k v v' → Along three three Refines refining (case_of w n k v) (case_of w n k' v')
  unfolding case_of
  case-refines k v k' v' h ad = grind (arith, (tabulate-keeps three three Refines refining n), refining, wider)

  case-exact : (s : ℕ) → Along three two Exact exact (case_of w n n s) (state_of w n s)
  unfolding case_of state_of
  case-exact s = tabulate-keeps three two Exact exact n _ _ λ i l. rw (lt-ltb i n l)

  pub read-full : (s : ℕ) (φ : Formula) → eval three (case_of w n n s) φ ≡ known (eval two (state_of w n s) φ)
  read-full s φ = eval-keeps three two Exact exact _ _ (case-exact s) φ

  eval-refines : (k v k' v' : ℕ) → k ≤ k' → Admits k v v' → (φ : Formula) → Refines (eval three (case_of w n k v) φ) (eval three (case_of w n k' v') φ)
  eval-refines k v k' v' h ad φ = eval-keeps three three Refines refining (case_of w n k v) (case_of w n k' v') (case-refines k v k' v' h ad) φ

  pub kleene-yes : (k v s : ℕ) → k ≤ n → Admits k v s → (φ : Formula) → eval three (case_of w n k v) φ ≡ Yes → eval two (state_of w n s) φ ≡ true
  kleene-yes k v s h ad φ e = known-inj {b' = true} (sym (read-full s φ) ∙ refines-known true (eval-refines k v n s h ad φ) e)

  pub kleene-no : (k v s : ℕ) → k ≤ n → Admits k v s → (φ : Formula) → eval three (case_of w n k v) φ ≡ No → eval two (state_of w n s) φ ≡ false
  kleene-no k v s h ad φ e = known-inj {b' = false} (sym (read-full s φ) ∙ refines-known false (eval-refines k v n s h ad φ) e)

  pub kleene-sound : KleeneSound w n
  kleene-sound = record { yes_is_true = kleene-yes; no_is_false = kleene-no; exact = read-full }

  -- the run at a case and at what it admits
  pub run-full : (goal : Formula) (plan : List Action) (s : ℕ) → run three n goal plan 0 (case_of w n n s) ≡ run two n goal plan 0 (state_of w n s)
  run-full goal plan s = run-same three two Exact exact (λ x y r. ap is_yes r ∙ yes-exact y) n goal plan 0 _ _ (case-exact s)

  run-refines : (goal : Formula) (plan : List Action) (k v k' v' : ℕ) → k ≤ k' → Admits k v v'
      → run three n goal plan 0 (case_of w n k v) ≡ reached → run three n goal plan 0 (case_of w n k' v') ≡ reached
  run-refines goal plan k v k' v' h ad = run-keeps three three Refines refining refines-yes n goal plan 0 _ _ (case-refines k v k' v' h ad)

-- ---- what a look says

-- a case that is closed: its initial formula reads no, or its run is reached
abbrev Shut : Kleene → Outcome → Type 0
Shut t r = (t ≡ No) ⊎ (r ≡ reached)

look-open : (t : Kleene) (r : Outcome) → look_of t r ≡ opened → Shut t r → ⊥
look-open t r e x = grind arith

-- how a walk ended
pub walk_ends : (r : Walked) → ((ls : List Line) × (a : ℕ) × (r ≡ covered ls a)) ⊎ ((s : ℕ) × (a : ℕ) × (r ≡ failed s a))
walk_ends (covered ls a) = inl (ls, a, refl)
walk_ends (failed s a) = inr (s, a, refl)

module _ (T : Task) (n≤w : T.facts ≤ T.width) where
  -- what a closed case admits is closed
  shut : (k v k' v' : ℕ) (κ : Kind) → k ≤ k' → k' ≤ T.facts → Block T.width k v → v ≤ v' → v' < v + 2 ^ (T.width - k)
      → look_at T k v ≡ closed κ → Shut (initial_at T k' v') (run_at T k' v')
  unfolding look_at
  shut k v k' v' κ h h' b l g e = grind (arith, (agree T.width k v v'), (eval-refines T.width T.facts k v k' v' h), (run-refines T.width T.facts T.goal T.plan k v k' v'))

  abbrev Good : ℕ → Type 0
  Good s = initially T s ≡ true → run_of T s ≡ reached

  good : (k v s : ℕ) (κ : Kind) → k ≤ T.facts → Block T.width k v → look_at T k v ≡ closed κ → v ≤ s → s < v + 2 ^ (T.width - k) → Good s
  unfolding run_of initially
  good k v s κ h b e l g st = grind (arith, (shut k v T.facts s κ h (omega arith) b l g e), (read-full T.width T.facts), (run-full T.width T.facts T.goal))

  -- a list whose lines hold, one after the other, over all numbers
  abbrev pub Passes : List Line → Type 0
  Passes ls = Follows T.width (look_at T) T.facts ls 0

  pub passes-right : (ls : List Line) → Passes ls → Right T
  passes-right ls f s st =
      covering T.width (look_at T) T.facts ls 0 f s zero-le st.state.in_width (λ k v κ _. good k v s κ) st.starts

  traced : (r : Walked) → walked T ≡ r → Traced T.width (look_at T) T.facts 0 0 r
  unfolding walked
  traced r e = subst (Traced T.width (look_at T) T.facts 0 0) e (walk-traced T.width (look_at T) T.facts n≤w)

  pub walk-fails-first : (s a : ℕ) → walked T ≡ failed s a → LowestFailing T s
  unfolding look_at run_of initially
  walk-fails-first s a e = grind (arith, (fails-at T.width (look_at T) T.facts n≤w Good good (traced (failed s a) e)), (read-full T.width T.facts s), (run-full T.width T.facts T.goal))

  pub walk_visits : (ls : List Line) (a : ℕ) → walked T ≡ covered ls a → suc a ≡ 2 * length ls
  walk_visits ls a e = closes-visits T.width (look_at T) T.facts n≤w (traced (covered ls a) e)

  pub walk-passes : (ls : List Line) (a : ℕ) → walked T ≡ covered ls a → Passes ls
  walk-passes ls a e =
      rw append-nil at
      (closes-follows T.width (look_at T) T.facts n≤w (traced (covered ls a) e) [] (omega (arith, root-span T.width)))

  pub walk-closes-right : (ls : List Line) (a : ℕ) → walked T ≡ covered ls a → Right T
  walk-closes-right ls a e = passes-right ls (walk-passes ls a e)

  pub walk-fewest : (ls : List Line) (a : ℕ) → walked T ≡ covered ls a → (ms : List Line) → Passes ms → length ls ≤ length ms
  unfolding look_at
  walk-fewest ls a e ms f =
      fewest T.width (look_at T) T.facts n≤w ms f (λ k v k' v' κ h h' b l g c o. grind (arith, look-open, (shut k v k' v' κ))) (traced (covered ls a) e)

  pub judged-out : (g : ℕ) → g < visits (walked T) → judged T g ≡ undecided g
  unfolding judged
  judged-out g h = rw (lt-leb (visits (walked T)) g h)

  pub judged-in : (g : ℕ) (r : Walked) → walked T ≡ r → visits (walked T) ≤ g → judged T g ≡ found T r
  unfolding judged
  judged-in g r e h = rw (le-leb (visits (walked T)) g h, e)

  pub larger_grant : (g g' : ℕ) → g ≤ g' → judged T g ≢ undecided g → judged T g' ≡ judged T g
  larger_grant g g' h d = grind (arith, judged-in, judged-out)

  -- what a verdict means
  abbrev pub Means : ℕ → Walked → Verdict (List Line) → Type 0
  Means g r (right ls a) = (r ≡ covered ls a) × Right T × (suc a ≡ 2 * length ls) × (a ≤ g)
  Means g r (wrong s o a) = (r ≡ failed s a) × LowestFailing T s × (o ≡ run_of T s) × (a ≤ g)
  Means g r (undecided m) = (m ≡ g) × (g < visits r)

  pub judged-means : (g : ℕ) → Means g (walked T) (judged T g)
  judged-means g = grind (arith, judged-in, walk-closes-right, walk_visits, walk-fails-first, judged-out)

  -- the walk closes everything exactly where the plan is right
  pub right-closes : Right T → (ls : List Line) × (a : ℕ) × (walked T ≡ covered ls a)
  right-closes r = elim (walk_ends (walked T)) [ inl c ↦ c | inr (s, a, e) ↦ absurd (grind (arith, (walk-fails-first s a e), (r s))) ]
