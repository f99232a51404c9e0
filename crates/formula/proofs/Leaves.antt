-- The literals of formulas, from their bytes: marks and counts are passed over. Assumes nothing.
use Rattle.std.proofs.Common.{◌≡◌, refl, sym, ap, ◌∙◌, Bool, true, false, ℕ, zero, suc, ◌-◌, ◌%◌, ◌≤◌, ◌<◌, List, [], ◌∷◌, ◌++◌, length, append_assoc, eqb, cond, arith, append-nil, ltb, leb, ltb-true, ltb-false, le-leb, ne_eqb, eqb-true}
use Rattle.std.proofs.lemmas.Bool.{eqb-false}
use borrow.Author.Tests.{lt-leb}
use Rattle.model.specs.Formula.{Literal, Formula, Formulas, fact, denial, lit, none, more}
use Rattle.model.specs.FormulaBytes.{Group, conjunction, disjunction, grouped, is_literal, literal_of, member_count}
use Rattle.formula.specs.Decoding.{decode, first, after, gathered}
use Rattle.model.proofs.Laws.FormulaCodec.{literal-got}
use Rattle.formula.proofs.Encoding.{literal-small}
use Rattle.model.specs.Relevance.{fact_of}
use Rattle.formula.specs.Views.{is_denial}
use Rattle.formula.specs.Literals.{literals, member_literals}

-- bytes hold no formula only where there is none
pub none_left : (s : List ℕ) → eqb (length s) 0 ≡ eqb (member_count (decode s)) 0
unfolding decode
none_left [] = refl
none_left (b ∷ []) = refl
none_left (b ∷ n ∷ s) = ne_eqb (suc (suc (length s))) 0 (λ e. omega arith) ∙ sym (ne_eqb _ 0 (by-mark (ltb b 128)))
  where
    by-mark : (t : Bool) → member_count (cond t (more (lit (literal_of b)) (decode (n ∷ s))) (gathered b n (decode s))) ≡ 0 → ⊥
    by-mark true e = omega arith
    by-mark false e = omega arith

pub some-left : (n : ℕ) → eqb n 0 ≡ false → 0 < n
some-left n e = omega (arith, eqb-false n 0 e)

-- a literal's fact by its byte, and whether it is a denial
pub byte-fact : (b : ℕ) → b < 128 → b % 64 ≡ fact_of (literal_of b)
unfolding literal_of
byte-fact b l = by-kind (ltb b 64) refl
  where
    by-kind : (t : Bool) → ltb b 64 ≡ t → b % 64 ≡ fact_of (cond t (fact b) (denial (b - 64)))
    by-kind true e = omega (arith, ltb-true b 64 e)
    by-kind false e = omega (arith, ltb-false b 64 e)

pub byte-denial : (b : ℕ) → leb 64 b ≡ is_denial (literal_of b)
unfolding literal_of
byte-denial b = by-kind (ltb b 64) refl
  where
    by-kind : (t : Bool) → ltb b 64 ≡ t → leb 64 b ≡ is_denial (cond t (fact b) (denial (b - 64)))
    by-kind true e = lt-leb _ _ (ltb-true b 64 e)
    by-kind false e = le-leb _ _ (ltb-false b 64 e)

-- the byte of a literal of a declared fact
pub literal-byte : (facts : ℕ) → facts ≤ 64 → (b : ℕ) → is_literal facts b ≡ true → b < 128
literal-byte facts few b i =
    let (d, e) = literal-got facts few b i in
    let l = literal-small facts few (literal_of b) d in
    omega (arith, e, l)

-- the first n and those after them are all
first-after : (n : ℕ) (ms : Formulas) → member_literals (first n ms) ++ member_literals (after n ms) ≡ member_literals ms
unfolding literals
first-after zero ms = refl
first-after (suc n) none = refl
first-after (suc n) (more m ms) = append_assoc (literals m) _ _ ∙ ap (λ (x : List Literal). literals m ++ x) (first-after n ms)

pub literal-first : (l : Literal) (ms rest : Formulas) → ms ≡ more (lit l) rest → member_literals ms ≡ l ∷ member_literals rest
unfolding literals
literal-first l ms rest e = rw e

pub group-first : (g : Group) (n : ℕ) (ms rest : Formulas) → ms ≡ more (grouped g (first n rest)) (after n rest) → member_literals rest ≡ member_literals ms
unfolding literals
group-first conjunction n ms rest e = rw e (sym (first-after n rest))
group-first disjunction n ms rest e = rw e (sym (first-after n rest))

pub alone_literals : (m : Formula) (ms : Formulas) → ms ≡ more m none → member_literals ms ≡ literals m
unfolding literals
alone_literals m ms e = rw e (append-nil (literals m))

pub none-literals : (ms : Formulas) → eqb (member_count ms) 0 ≡ true → member_literals ms ≡ []
unfolding literals
none-literals none e = refl
none-literals (more m ms) e = absurd (omega (arith, eqb-true (suc (member_count ms)) 0 e))
