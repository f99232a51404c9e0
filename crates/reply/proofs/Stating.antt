-- The states of a run, a line each.
use Rattle.std.proofs.Common.{◌≡◌, refl, ap, ◌∙◌, Bool, true, false, List, [], ◌∷◌, ◌++◌, append_assoc, map, ℕ, suc, ◌+◌, ◌-◌, ◌*◌, ◌≤◌, ◌<◌, arith, length, take, drop, take_at, drop_at, eqb, codes, decimal, add-one}
use lib.ListN.{length-map}
use Rattle.model.specs.{declared.Limits.Limits, Case.flag, Relevance.number_of, Relevance.rows}
use Rattle.model.proofs.Laws.Tracing.{OfSize}
use Rattle.names.specs.Names.{Names}
use Rattle.told.specs.States.{state_text}
use Rattle.names.proofs.Pieces.{after-five}
use Rattle.reply.specs.StateLines.{states_text, numbered_states}

-- a row is read as it was written
read-flags : (c : List Bool) → map (eqb 1) (map flag c) ≡ c
read-flags [] = refl
read-flags (true ∷ c) = ap (λ (x : List Bool). true ∷ x) (read-flags c)
read-flags (false ∷ c) = ap (λ (x : List Bool). false ∷ x) (read-flags c)

module _ (N : Names) (F : Limits) (n : ℕ) where
  -- the line of state i, by its row
  abbrev pub state_line : ℕ → List ℕ → List ℕ
  state_line i row = codes "state " ++ (decimal i ++ (codes " " ++ (state_text N F n (number_of F.width (map (eqb 1) row)) ++ (10 ∷ []))))

  states-more : (i count : ℕ) (rows : List ℕ) → states_text N F n i (suc count) rows ≡ state_line i (take n rows) ++ states_text N F n (suc i) count (drop n rows)
  unfolding states_text
  states-more i count rows =
      after-five (codes "state ") (decimal i) (codes " ") (state_text N F n (number_of F.width (map (eqb 1) (take n rows)))) (10 ∷ []) (states_text N F n (suc i) count (drop n rows))

  -- those below `count` from i on
  first-state :
      (i count : ℕ) (rows : List ℕ) → i < count →
      states_text N F n i (count - i) rows ≡ state_line i (take n rows) ++ states_text N F n (i + 1) (count - (i + 1)) (drop n rows)
  first-state i count rows h =
      let e : count - i ≡ suc (count - suc i) = omega (arith, h) in
      rw (e, add-one i) (states-more i (count - suc i) rows)

  -- the same, as its row and its number are known
  pub next-state :
      (i count : ℕ) (rows row rest : List ℕ) (s : ℕ) → i < count → row ≡ take n rows → rest ≡ drop n rows → s ≡ number_of F.width (map (eqb 1) row) →
      states_text N F n i (count - i) rows ≡
      (codes "state " ++ (decimal i ++ (codes " " ++ (state_text N F n s ++ (10 ∷ []))))) ++ states_text N F n (i + 1) (count - (i + 1)) rest
  next-state i count rows row rest s h a b e = rw (e, a, b) (first-state i count rows h)

  pub no-state : (i count : ℕ) (rows : List ℕ) → count ≤ i → states_text N F n i (count - i) rows ≡ []
  unfolding states_text
  no-state i count rows h =
      let e : count - i ≡ 0 = omega (arith, h) in
      rw e refl

  -- rows of states are told as the states' numbers, whatever follows them
  pub states-numbered :
      (i : ℕ) (cs : List (List Bool)) (rest : List ℕ) → OfSize n cs →
      states_text N F n i (length cs) (rows cs ++ rest) ≡ numbered_states N F n i (map (number_of F.width) cs)
  unfolding states_text numbered_states rows
  states-numbered i [] rest size = refl
  states-numbered i (c ∷ cs) rest size =
      let row = map flag c in
      let long : length row ≡ n = length-map c flag ∙ size 0 (omega arith) in
      let split = append_assoc row (rows cs) rest in
      let here : take n ((row ++ rows cs) ++ rest) ≡ row = ap (take n) split ∙ take_at row (rows cs ++ rest) n long in
      let there : drop n ((row ++ rows cs) ++ rest) ≡ rows cs ++ rest = ap (drop n) split ∙ drop_at row (rows cs ++ rest) n long in
      rw (here, there, read-flags c, states-numbered (suc i) cs rest (λ j l. size (suc j) (omega arith))) refl

-- ---- the rows that are left

-- after the first are the others
pub rows-fit : (n i count room : ℕ) → i < count → n * (count - i) ≤ room → n * (count - (i + 1)) ≤ room - n
rows-fit n i count room h fits =
    let e : count - i ≡ suc (count - suc i) = omega (arith, h) in
    let k : n * suc (count - suc i) ≤ room = rw (← e) fits in
    rw (add-one i) (omega (arith, k))
