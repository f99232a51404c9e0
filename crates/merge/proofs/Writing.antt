-- The bytes of formulas and actions whose facts are moved up, piece after piece. Assumes nothing.
use Rattle.std.proofs.Common.{◌≡◌, refl, sym, ap, ◌∙◌, Bool, true, false, cond, List, [], ◌∷◌, ◌++◌, append_assoc, append-nil, map, ℕ, zero, suc, ◌+◌, ◌-◌, ◌≤◌, ◌<◌, arith, length, length-append, drop, ltb, ltb-false, eqb, eqb-true}
use Rattle.std.proofs.lemmas.List.{drop_all, drop_more}
use lib.ListN.{length-map}
use Rattle.model.specs.Read.{bytes_of}
use Rattle.model.specs.Action.{Effect, Action}
use Rattle.model.specs.Formula.{Literal, fact, denial, Formula, Formulas, lit, all, none, more}
use Rattle.model.specs.FormulaBytes.{Group, conjunction, disjunction, grouped, mark, literal_of, literal_byte, member_count, formula_bytes, member_bytes, encode_formula}
use Rattle.model.specs.ProblemBytes.{action_at, effects_bytes, action_bytes, actions_bytes}
use Rattle.model.specs.Merging.{moved_literal, moved, moved_members, moved_effect, moved_action, joined, parts}
use Rattle.model.proofs.Laws.Reading.{length-bytes_of}
use Rattle.formula.specs.Views.{formulas}
use Rattle.formula.specs.Decoding.{first, after}
use Rattle.formula.proofs.Sizes.{sizes}
use Rattle.merge.specs.declared.both.Both.{Both}
use Rattle.merge.specs.Views.{both_of}
use Rattle.merge.specs.Writing.{effect_bytes}
use Rattle.merge.proofs.Sound.{moved-byte, moved-count, moved-bytes, zero-members}

-- ---- formulas whose facts are moved up

byte-of : (b : ℕ) → literal_byte (literal_of b) ≡ b
unfolding literal_of
byte-of b = by-kind (ltb b 64) refl
  where
    by-kind : (t : Bool) → ltb b 64 ≡ t → literal_byte (cond t (fact b) (denial (b - 64))) ≡ b
    by-kind true e = refl
    by-kind false e = omega (arith, ltb-false b 64 e)

pub literal-moved : (n b k : ℕ) → b ≡ k → literal_byte (moved_literal n (literal_of k)) ≡ b + n
literal-moved n b k e = omega (arith, e, moved-byte n (literal_of k), byte-of k)

-- the byte of a moved literal, and those after it
pub moved-leaf :
    (n b k : ℕ) (ms rest : Formulas) → ms ≡ more (lit (literal_of k)) rest → b ≡ k →
    member_bytes (moved_members n ms) ≡ (b + n) ∷ member_bytes (moved_members n rest)
unfolding member_bytes moved
moved-leaf n b k ms rest e i = rw (e, literal-moved n b k i) refl

first-count : (k : ℕ) (ms : Formulas) → k ≤ member_count ms → member_count (first k ms) ≡ k
first-count zero ms h = refl
first-count (suc k) none h = absurd (omega arith)
first-count (suc k) (more m ms) h = ap suc (first-count k ms (omega arith))

-- the first k and those after them are all
split-bytes :
    (n k : ℕ) (ms : Formulas) →
    member_bytes (moved_members n (first k ms)) ++ member_bytes (moved_members n (after k ms)) ≡ member_bytes (moved_members n ms)
unfolding member_bytes moved
split-bytes n zero ms = refl
split-bytes n (suc k) none = refl
split-bytes n (suc k) (more m ms) =
    append_assoc (formula_bytes (moved n m)) _ _ ∙ ap (λ (x : List ℕ). formula_bytes (moved n m) ++ x) (split-bytes n k ms)

-- a group's mark and count, and then its members and those after it
pub moved-branch :
    (n k b : ℕ) (g : Group) (ms rest : Formulas) → k ≤ member_count rest → ms ≡ more (grouped g (first k rest)) (after k rest) → b ≡ mark g →
    member_bytes (moved_members n ms) ≡ b ∷ k ∷ member_bytes (moved_members n rest)
unfolding member_bytes moved
moved-branch n k b conjunction ms rest h e i = rw (e, i, moved-count n (first k rest), first-count k rest h) (ap (λ (x : List ℕ). 0x80 ∷ k ∷ x) (split-bytes n k rest))
moved-branch n k b disjunction ms rest h e i = rw (e, i, moved-count n (first k rest), first-count k rest h) (ap (λ (x : List ℕ). 0x81 ∷ k ∷ x) (split-bytes n k rest))

-- the formulas after a literal are fewer
pub leaf-fewer : (l : Literal) (ms rest : Formulas) → ms ≡ more (lit l) rest → sizes rest < sizes ms
unfolding sizes
leaf-fewer l ms rest e = rw e (omega arith)

-- no formula is left
pub moved-none : (n : ℕ) (ms : Formulas) → eqb (member_count ms) 0 ≡ true → member_bytes (moved_members n ms) ≡ []
unfolding member_bytes moved
moved-none n none e = refl
moved-none n (more m ms) e = absurd (omega (arith, eqb-true (suc (member_count ms)) 0 e))

encode-length : (f : Formula) → length (encode_formula f) ≡ 2 + length (formula_bytes f)
unfolding encode_formula
encode-length f = omega (arith, length-append (bytes_of 2 (length (formula_bytes f))) (formula_bytes f), length-bytes_of 2 (length (formula_bytes f)))

pub moved-encode : (n : ℕ) (f : Formula) → length (encode_formula (moved n f)) ≡ length (encode_formula f)
moved-encode n f = omega (arith, encode-length f, encode-length (moved n f), moved-bytes n f)

-- a formula after its length field
pub formula-pieces :
    (n : ℕ) (f : Formula) (ms : Formulas) (l : ℕ) → ms ≡ more f none → l ≡ length (formula_bytes f) →
    encode_formula (moved n f) ≡ bytes_of 2 l ++ member_bytes (moved_members n ms)
unfolding encode_formula member_bytes moved
formula-pieces n f ms l e i = rw (e, i, moved-bytes n f, append-nil (formula_bytes (moved n f))) refl

-- ---- the "all" of two formulas

pub joined-bytes : (ms ns : Formulas) → member_bytes (joined ms ns) ≡ member_bytes ms ++ member_bytes ns
unfolding member_bytes
joined-bytes none ns = refl
joined-bytes (more m ms) ns =
    ap (λ (x : List ℕ). formula_bytes m ++ x) (joined-bytes ms ns) ∙ sym (append_assoc (formula_bytes m) (member_bytes ms) (member_bytes ns))

-- the "all" of both, piece by piece
pub both-pieces :
    (b : Both) (l m k : ℕ) → l ≡ length (formula_bytes (both_of b)) → m ≡ 0x80 → k ≡ member_count (parts (both_of b)) →
    encode_formula (both_of b) ≡
    bytes_of 2 l ++ (m ∷ k ∷ (member_bytes (moved_members 0 (formulas b.first.formulas)) ++ member_bytes (moved_members b.shift (formulas b.second.formulas))))
unfolding encode_formula formula_bytes
both-pieces b l m k i j h = rw (i, j, h, zero-members (formulas b.first.formulas), joined-bytes) refl

-- ---- actions

moved-effects-length : (n : ℕ) (es : List Effect) → length (effects_bytes (map (moved_effect n) es)) ≡ length (effects_bytes es)
unfolding effects_bytes
moved-effects-length n [] = refl
moved-effects-length n (e ∷ es) =
    let a = length-append (encode_formula e.condition) (effects_bytes es) in
    let b = length-append (encode_formula (moved n e.condition)) (effects_bytes (map (moved_effect n) es)) in
    omega (arith, a, b, moved-encode n e.condition, moved-effects-length n es)

action-length : (a : Action) → length (action_bytes a) ≡ suc (length (encode_formula a.precondition) + length (effects_bytes a.effects))
unfolding action_bytes
action-length a = omega (arith, length-append (encode_formula a.precondition) (length a.effects ∷ effects_bytes a.effects))

pub moved-action-length : (n : ℕ) (a : Action) → length (action_bytes (moved_action n a)) ≡ length (action_bytes a)
moved-action-length n a =
    omega (arith, action-length a, action-length (moved_action n a), moved-encode n a.precondition, moved-effects-length n a.effects)

-- an action's pieces
pub action-pieces :
    (n k : ℕ) (a : Action) → k ≡ length a.effects →
    action_bytes (moved_action n a) ≡ encode_formula (moved n a.precondition) ++ (k ∷ effects_bytes (map (moved_effect n) a.effects))
unfolding action_bytes
action-pieces n k a e = rw (e, length-map a.effects (moved_effect n)) refl

-- the effects that are left begin with this one
pub next-effect :
    (n : ℕ) (old : List Effect) (e : Effect) (es : List Effect) → old ≡ e ∷ es →
    effects_bytes (map (moved_effect n) old) ≡ effect_bytes (moved_effect n e) ++ effects_bytes (map (moved_effect n) es)
unfolding effects_bytes
next-effect n old e es i = rw i refl

pub no-effect : (n : ℕ) (es : List Effect) → es ≡ [] → effects_bytes (map (moved_effect n) es) ≡ []
unfolding effects_bytes
no-effect n es i = rw i refl

pub moved-actions-length : (n : ℕ) (as' : List Action) → length (actions_bytes (map (moved_action n) as')) ≡ length (actions_bytes as')
unfolding actions_bytes
moved-actions-length n [] = refl
moved-actions-length n (a ∷ as') =
    let x = length-append (action_bytes a) (actions_bytes as') in
    let y = length-append (action_bytes (moved_action n a)) (actions_bytes (map (moved_action n) as')) in
    omega (arith, x, y, moved-action-length n a, moved-actions-length n as')

-- the actions that are left begin with number i
pub next-action :
    (n : ℕ) (as' : List Action) (i : ℕ) (a : Action) → i < length as' → a ≡ action_at as' i →
    actions_bytes (map (moved_action n) (drop i as')) ≡ action_bytes (moved_action n a) ++ actions_bytes (map (moved_action n) (drop (i + 1) as'))
unfolding actions_bytes action_at
next-action n as' i a h e = rw (drop_more as' i (record { precondition = all none; effects = [] }) h, e) refl

-- and others come after them
pub next-before :
    (n : ℕ) (as' : List Action) (i : ℕ) (a : Action) (others : List ℕ) → i < length as' → a ≡ action_at as' i →
    actions_bytes (map (moved_action n) (drop i as')) ++ others ≡
    action_bytes (moved_action n a) ++ (actions_bytes (map (moved_action n) (drop (i + 1) as')) ++ others)
next-before n as' i a others h e = ap (λ (x : List ℕ). x ++ others) (next-action n as' i a h e) ∙ append_assoc (action_bytes (moved_action n a)) _ others

pub no-action : (n i : ℕ) (as' : List Action) → length as' ≤ i → actions_bytes (map (moved_action n) (drop i as')) ≡ []
unfolding actions_bytes
no-action n i as' h = rw (drop_all i as' h) refl
