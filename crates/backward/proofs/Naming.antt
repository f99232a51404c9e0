-- The facts that a formula names are those that its literals are of. Assumes nothing.
use Rattle.backward.proofs.Words.{◌≡◌, refl, sym, ap, ◌∙◌, Bool, true, false, cond, ◌||◌, ℕ, zero, suc, List, [], ◌∷◌, ◌&&◌, eqb, leb, ltb, Literal, Formula, Formulas, lit, none, more, Group, conjunction, disjunction, grouped, literal_of, member_count, fact_of, names, member_names, and-true, or_assoc, or-none, literals, member_literals}
use Rattle.formula.specs.Decoding.{decode, first, after, head, gathered, marked, is_sound}
use Rattle.formula.proofs.{Decoding.alone, Leaves.literal-first, Leaves.group-first, Leaves.alone_literals}

-- whether one of the literals is of fact f
unfoldable pub named_by : List Literal → ℕ → Bool
named_by [] f = false
named_by (l ∷ ls) f = eqb (fact_of l) f || named_by ls f

-- the first n and those after them are all
first-names : (n : ℕ) (ms : Formulas) (f : ℕ) → (member_names (first n ms) f || member_names (after n ms) f) ≡ member_names ms f
unfolding names
first-names zero ms f = refl
first-names (suc n) none f = refl
first-names (suc n) (more m ms) f = or_assoc (names m f) _ _ ∙ ap (λ b. names m f || b) (first-names n ms f)

group-names : (g : Group) (n : ℕ) (ms : Formulas) (f : ℕ) → member_names (more (grouped g (first n ms)) (after n ms)) f ≡ member_names ms f
unfolding names
group-names conjunction n ms f = first-names n ms f
group-names disjunction n ms f = first-names n ms f

-- what the formulas of sound bytes name
Named : Formulas → Type 0
Named ms = (f : ℕ) → member_names ms f ≡ named_by (member_literals ms) f

with-literal : (l : Literal) (ms : Formulas) → Named ms → Named (more (lit l) ms)
unfolding Named names named_by
with-literal l ms h f = rw (literal-first l (more (lit l) ms) ms refl) (ap (λ x. eqb (fact_of l) f || x) (h f))

with-group : (g : Group) (n : ℕ) (ms : Formulas) → Named ms → Named (more (grouped g (first n ms)) (after n ms))
unfolding Named
with-group g n ms h f = group-names g n ms f ∙ h f ∙ ap (λ (x : List Literal). named_by x f) (group-first g n _ ms refl)

none-named : Named none
unfolding Named names named_by literals
none-named f = refl

names-literals : (s : List ℕ) → is_sound s ≡ true → Named (decode s)
unfolding decode is_sound
names-literals [] e = none-named
names-literals (b ∷ []) e = with-literal (literal_of b) none none-named
names-literals (b ∷ n ∷ s) e = by-mark (ltb b 128) refl e (names-literals (n ∷ s)) (names-literals s)
  where
    by-mark :
        (t : Bool) → ltb b 128 ≡ t → cond t (is_sound (n ∷ s)) (leb n (member_count (decode s)) && is_sound s) ≡ true →
        (is_sound (n ∷ s) ≡ true → Named (decode (n ∷ s))) → (is_sound s ≡ true → Named (decode s)) →
        Named (cond t (more (lit (literal_of b)) (decode (n ∷ s))) (gathered b n (decode s)))
    by-mark true i e h k = with-literal (literal_of b) (decode (n ∷ s)) (h e)
    by-mark false i e h k = with-group (marked b) n (decode s) (k (and-true _ _ e).1)

pub literal-names : {m : Formula} {ms rest : Formulas} (l : Literal) → ms ≡ more m none → ms ≡ more (lit l) rest → (f : ℕ) → names m f ≡ eqb (fact_of l) f
unfolding names
literal-names {m = m} l e k f = let i : m ≡ lit l = cc in rw i refl

pub formula-names :
    (s : List ℕ) → is_sound s ≡ true → member_count (decode s) ≡ 1 → (f : ℕ) → names (head (decode s)) f ≡ named_by (literals (head (decode s))) f
unfolding names Named
formula-names s e one f =
    let i = alone (decode s) one in
    sym (ap (λ (ms : Formulas). member_names ms f) i ∙ or-none (names (head (decode s)) f)) ∙ names-literals s e f ∙
    ap (λ (ls : List Literal). named_by ls f) (alone_literals (head (decode s)) (decode s) i)

-- ---- the loop: what is named is of those literals that were met, or of those that are left

pub named-first : (ls : List Literal) (l : Literal) (rest : List Literal) → ls ≡ l ∷ rest → (f : ℕ) → named_by ls f ≡ (eqb (fact_of l) f || named_by rest f)
unfolding named_by
named-first ls l rest e f = rw e refl

pub none-named-by : (ls : List Literal) → ls ≡ [] → (f : ℕ) → named_by ls f ≡ false
unfolding named_by
none-named-by ls e f = rw e refl
