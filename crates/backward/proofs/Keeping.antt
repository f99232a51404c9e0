-- The rows that are kept of a run: after each step, those of the states before it that begin a stretch. Assumes nothing.
use Rattle.backward.proofs.Words.{◌≡◌, sym, ap, ◌∙◌, Bool, List, [], ◌∷◌, ◌++◌, map, append-nil, ℕ, suc, ◌+◌, ◌*◌, ◌/◌, ◌%◌, ◌≤◌, ◌<◌, arith, length, take, ne_eqb, ℕ_discrete, length-map, length-sets, flag, Task, tabulate, stretch, rows, length-tabulate, get_d_tabulate, tabulate-last, OfSize, rows-size, rows-append, sets-append, Cases, KeepsRow, kept_of, KeepsRows, state_at, Shows}
use Rattle.backward.proofs.{States.state-length, Going.Stepping, Going.row-now, Going.all-steps}
use lib.Seq.{sets}

-- ---- one row

-- a row that is kept
pub row-kept : (i : ℕ) (row before after : List ℕ) → i % stretch ≡ 0 → after ≡ sets before (i / stretch * length row) row → KeepsRow i row before after
row-kept i row before after e put = rw e put

pub keeps-size : (i : ℕ) (row before after : List ℕ) → KeepsRow i row before after → length after ≡ length before
keeps-size i row before after K = grind (arith, length-sets)

-- ---- the states that are kept

module _ (T : Task) (st : List Bool) where
  -- the first k of them
  abbrev first_kept : ℕ → List (List Bool)
  first_kept k = tabulate k (λ j. state_at T st (stretch * j))

  -- those before step i
  abbrev pub kept_before : ℕ → List (List Bool)
  kept_before i = first_kept ((i + 15) / stretch)

  kept-all : kept_before (length T.plan + 1) ≡ kept_of T st
  kept-all = let k : (length T.plan + 1 + 15) / stretch ≡ length T.plan / stretch + 1 = omega arith in ap first_kept k

  one-more : (k : ℕ) → rows (first_kept (suc k)) ≡ rows (first_kept k) ++ map flag (state_at T st (stretch * k))
  unfolding rows
  one-more k =
      let own = state_at T st (stretch * k) in
      ap rows (tabulate-last k (λ j. state_at T st (stretch * j))) ∙ rows-append (first_kept k) (own ∷ []) ∙
      ap (λ (x : List ℕ). rows (first_kept k) ++ x) (append-nil (map flag own))

  module _ (z : length st ≡ T.facts) where
    pub kept-size : (k : ℕ) → ((j : ℕ) → j < k → stretch * j ≤ length T.plan) → OfSize T.facts (first_kept k)
    kept-size k few j l =
        let inside : j < k = omega (arith, length-tabulate k (λ m. state_at T st (stretch * m))) in
        ap length (get_d_tabulate k (λ m. state_at T st (stretch * m)) j [] inside) ∙ state-length T.facts T.plan st z (stretch * j) (few j inside)

    kept-rows : (k : ℕ) → stretch * k ≤ length T.plan → length (rows (first_kept k)) ≡ k * T.facts
    kept-rows k few =
        rows-size T.facts (first_kept k) (kept-size k (λ j l. omega arith)) ∙
        ap (λ (x : ℕ). x * T.facts) (length-tabulate k (λ j. state_at T st (stretch * j)))

    module _ (i : ℕ) (few : i ≤ length T.plan) (before : List ℕ) where
      -- the state before step i begins a stretch
      begins-stretch :
          i % stretch ≡ 0 →
          sets (sets before 0 (rows (kept_before i))) (i / stretch * T.facts) (map flag (state_at T st i)) ≡
          sets before 0 (rows (kept_before (i + 1)))
      begins-stretch e =
          let k = i / stretch in
          let now : (i + 15) / stretch ≡ k = omega arith in
          let next' : (i + 1 + 15) / stretch ≡ suc k = omega arith in
          let here : i ≡ stretch * k = omega arith in
          let done = rows (first_kept k) in
          let own = map flag (state_at T st (stretch * k)) in
          let place : k * T.facts ≡ 0 + length done = omega (arith, kept-rows k (omega arith)) in
          ap (λ (x : ℕ). sets (sets before 0 (rows (first_kept x))) (k * T.facts) (map flag (state_at T st i))) now ∙
          ap (λ (x : ℕ). sets (sets before 0 done) (k * T.facts) (map flag (state_at T st x))) here ∙
          ap (λ (x : ℕ). sets (sets before 0 done) x own) place ∙ sym (sets-append done own before 0) ∙
          ap (sets before 0) (sym (one-more k)) ∙ ap (λ (x : ℕ). sets before 0 (rows (first_kept x))) (sym next')

      kept-next :
          (row kept kept' : List ℕ) → row ≡ map flag (state_at T st i) → kept ≡ sets before 0 (rows (kept_before i)) →
          KeepsRow i row kept kept' → kept' ≡ sets before 0 (rows (kept_before (i + 1)))
      kept-next row kept kept' own so-far K =
          elim (ℕ_discrete (i % stretch) 0) [
            | yes e ↦
                let size : length row ≡ T.facts =
                ap length own ∙ length-map (state_at T st i) flag ∙ state-length T.facts T.plan st z i few
                in
                rw e at K ∙ ap (λ (x : ℕ). sets kept (i / stretch * x) row) size ∙
                rw (own, so-far) (begins-stretch e)
            | no n ↦
                let same : (i + 15) / stretch ≡ (i + 1 + 15) / stretch = omega (arith, n) in
                rw (ne_eqb (i % stretch) 0 n) at K ∙ so-far ∙ ap (λ (x : ℕ). sets before 0 (rows (first_kept x))) same
          ]

-- ---- the run

module _ (T : Task) (c : Cases) (before : List ℕ) where
  -- i steps are taken, and the rows that are kept of the states before them are written
  abbrev pub Keeping : ℕ → Cases → List ℕ → List ℕ → Type 0
  Keeping = Stepping T c before (λ st i. rows (kept_before T st i))

  module _
      (same : c.facts ≡ T.facts) (i : ℕ) (d : Cases) (row kept : List ℕ) (W : Keeping i d row kept) (kept' : List ℕ)
      (K : KeepsRow i (take c.facts row) kept kept')
    where
      pub written-next : (st : List Bool) → length st ≡ T.facts → Shows c st → kept' ≡ sets before 0 (rows (kept_before T st (i + 1)))
      written-next st z begin =
          kept-next T st z i W.few before (take c.facts row) kept kept' (row-now T c before _ same i d row kept W st z begin) (W.written st z begin) K

      pub keeping-ends : length T.plan ≤ i → KeepsRows T c before kept'
      keeping-ends l st z begin reaches =
          written-next st z begin ∙ ap (λ (x : ℕ). sets before 0 (rows (kept_before T st (x + 1)))) (all-steps T c before _ same i d row kept W l) ∙
          ap (λ (x : List (List Bool)). sets before 0 (rows x)) (kept-all T st)
