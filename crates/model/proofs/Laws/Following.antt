-- Following a list: it is answered exactly where its lines hold, one after the other, over all numbers. Assumes nothing.
use Rattle.model.proofs.Words.{◌≡◌, ap, Bool, true, false, List, [], ◌∷◌, ℕ, suc, ◌+◌, ◌-◌, ◌^◌, arith, length, eqb-true, eq-eqb, Answer, answered, Look, Line, first, refuse_at, ends, fault, follow, LineHolds}
use Rattle.model.proofs.Laws.Cover.{Follows}

first-zero : (b : Bool) (c r : ℕ) → first b (suc c) r ≡ 0 → (b ≡ false) × (r ≡ 0)
unfolding first
first-zero b c r e = grind arith

pub refuse-at-answered : (c i m : ℕ) (r : Answer ℕ) → refuse_at c i r ≡ answered m → (c ≡ 0) × (r ≡ answered m)
unfolding refuse_at
refuse-at-answered c i m r e = grind arith

pub ends-answered : (b : Bool) (i m : ℕ) → ends b i ≡ answered m → (b ≡ true) × (i ≡ m)
unfolding ends
ends-answered b i m e = grind arith

module _ (w : ℕ) (look : ℕ → ℕ → Look) (n : ℕ) where
  fault-ok : (l : Line) (x : ℕ) → l.value ≡ x → LineHolds w look n l → fault w look n l x ≡ 0
  unfolding fault first
  fault-ok l x e f = grind arith

  -- a line without a fault begins where it should, and holds
  pub fault-none : (l : Line) (x : ℕ) → fault w look n l x ≡ 0 → (l.value ≡ x) × LineHolds w look n l
  unfolding fault
  fault-none l x e = grind (arith, first-zero)

  -- a list that is followed to its end, from line i and number x on
  pub follow-passes :
      (ls : List Line) (i x m : ℕ) → follow w look n ls i x ≡ answered m → Follows w look n ls x × (m ≡ i + length ls)
  unfolding follow
  follow-passes [] i x m e = let (b, c) = ends-answered _ i m e in ((eqb-true x (2 ^ w) b, tt), omega arith)
  follow-passes (l ∷ ls) i x m e = grind (arith, (follow-passes ls (suc i) (x + 2 ^ (w - l.k)) m), refuse-at-answered, fault-none)

  pub passes-follow : (ls : List Line) (i x : ℕ) → Follows w look n ls x → follow w look n ls i x ≡ answered (i + length ls)
  unfolding follow refuse_at ends
  passes-follow [] i x f = rw (eq-eqb x (2 ^ w) f.0) (ap answered (omega arith))
  passes-follow (l ∷ ls) i x f = grind (arith, fault-ok, (passes-follow ls (suc i) (x + 2 ^ (w - l.k)) (f.0.1, f.1.1)))
