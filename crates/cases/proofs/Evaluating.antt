-- Evaluating in 64 lanes: what one turn of the loop over members makes of the lanes. Assumes nothing.
use Rattle.std.proofs.Common.{◌≡◌, refl, sym, ◌∙◌, List, ℕ, zero, suc, ◌≤◌, ◌<◌, arith}
use Rattle.model.specs.Kleene.{Kleene, No, Unknown, Yes, both, either, three}
use Rattle.model.specs.Formula.{Literal, Formula, Formulas, lit, all, any, none, more, value_of, eval}
use Rattle.model.specs.FormulaBytes.{Group, conjunction, disjunction, grouped, member_count}
use Rattle.model.proofs.Laws.Agreement.{by_row, by-table}
use Rattle.formula.specs.Decoding.{first, after, head}
use Rattle.formula.proofs.Sizes.{sizes, sizes-split}
use Rattle.formula.specs.Views.{group, after_group}
use Rattle.formula.specs.declared.formulas.Members.{Members}
use Rattle.model.specs.Marks.{group_of}
use Rattle.cases.specs.Values.{join_values, unit_value, deciding_value}

-- ---- one more member, at the end

both-assoc : (x y z : Kleene) → both x (both y z) ≡ both (both x y) z
both-assoc No y z = refl
both-assoc Yes y z = refl
both-assoc Unknown y z = by-table (λ y z. both Unknown (both y z)) (λ y z. both (both Unknown y) z) refl y z

either-assoc : (x y z : Kleene) → either x (either y z) ≡ either (either x y) z
either-assoc No y z = refl
either-assoc Yes y z = refl
either-assoc Unknown y z = by-table (λ y z. either Unknown (either y z)) (λ y z. either (either Unknown y) z) refl y z

both-no : (x y z : Kleene) → both x y ≡ No → (y ≡ No → z ≡ No) → both x z ≡ No
both-no No y z e h = refl
both-no Unknown No z e h = rw (h refl)
both-no Unknown Unknown z e h = cc
both-no Unknown Yes z e h = cc
both-no Yes y z e h = h e

either-yes : (x y z : Kleene) → either x y ≡ Yes → (y ≡ Yes → z ≡ Yes) → either x z ≡ Yes
either-yes Yes y z e h = refl
either-yes Unknown Yes z e h = rw (h refl)
either-yes Unknown Unknown z e h = cc
either-yes Unknown No z e h = cc
either-yes No y z e h = h e

pub eval-none : (c : List Kleene) (g : Group) → eval three c (grouped g none) ≡ unit_value g
unfolding eval
eval-none c conjunction = refl
eval-none c disjunction = refl

pub joined-more :
    (c : List Kleene) (g : Group) (k : ℕ) (ms : Formulas) → k < member_count ms →
    eval three c (grouped g (first (suc k) ms)) ≡ join_values g (eval three c (grouped g (first k ms))) (eval three c (head (after k ms)))
unfolding eval
joined-more c g k none h = absurd (omega arith)
joined-more c conjunction zero (more m ms) h = by_row (λ x. both x Yes) (λ x. x) refl (eval three c m)
joined-more c disjunction zero (more m ms) h = by_row (λ x. either x No) (λ x. x) refl (eval three c m)
joined-more c conjunction (suc k) (more m ms) h =
    rw (joined-more c conjunction k ms (omega arith)) (both-assoc (eval three c m) (eval three c (all (first k ms))) _)
joined-more c disjunction (suc k) (more m ms) h =
    rw (joined-more c disjunction k ms (omega arith)) (either-assoc (eval three c m) (eval three c (any (first k ms))) _)

pub after-more : (k : ℕ) (ms : Formulas) → after (suc k) ms ≡ after 1 (after k ms)
after-more zero ms = refl
after-more (suc k) none = refl
after-more (suc k) (more m ms) = after-more k ms

pub after-some : (k : ℕ) (ms : Formulas) → k < member_count ms → 0 < member_count (after k ms)
after-some zero ms h = h
after-some (suc k) none h = absurd (omega arith)
after-some (suc k) (more m ms) h = after-some k ms (omega arith)

-- what decides the first k decides all n
pub decided-first :
    (c : List Kleene) (g : Group) (k n : ℕ) (ms : Formulas) → k ≤ n → eval three c (grouped g (first k ms)) ≡ deciding_value g →
    eval three c (grouped g (first n ms)) ≡ deciding_value g
unfolding eval
decided-first c conjunction zero n ms l e = cc
decided-first c disjunction zero n ms l e = cc
decided-first c g (suc k) zero ms l e = absurd (omega arith)
decided-first c conjunction (suc k) (suc n) none l e = e
decided-first c disjunction (suc k) (suc n) none l e = e
decided-first c conjunction (suc k) (suc n) (more m ms) l e =
    both-no (eval three c m) _ _ e (decided-first c conjunction k n ms (omega arith))
decided-first c disjunction (suc k) (suc n) (more m ms) l e =
    either-yes (eval three c m) _ _ e (decided-first c disjunction k n ms (omega arith))

-- so many of the formulas are left in fewer, or as many
pub fewer-after : (k : ℕ) (ms : Formulas) → sizes (after k ms) ≤ sizes ms
fewer-after k ms = omega (arith, sizes-split k ms)

-- ---- the first formula

pub head-group : {ms rest : Formulas} {m : Formula} (c : ℕ → List Kleene) {w : ℕ → Kleene} → ms ≡ more m rest →
    ((j : ℕ) → j < 64 → w j ≡ eval three (c j) m) → (j : ℕ) → j < 64 → w j ≡ eval three (c j) (head ms)
head-group c e h = rw e h

pub literal-first :
    {ms rest : Formulas} (c : ℕ → List Kleene) (l : Literal) {w : ℕ → Kleene} → ms ≡ more (lit l) rest →
    ((j : ℕ) → j < 64 → w j ≡ value_of three (c j) l) → (j : ℕ) → j < 64 → w j ≡ eval three (c j) (head ms)
unfolding eval
literal-first c l e h = rw e h

-- ---- a formula alone

pub literal-alone :
    {m : Formula} {ms rest : Formulas} (c : ℕ → List Kleene) (l : Literal) {w : ℕ → Kleene} → ms ≡ more m none → ms ≡ more (lit l) rest →
    ((j : ℕ) → j < 64 → w j ≡ value_of three (c j) l) → (j : ℕ) → j < 64 → w j ≡ eval three (c j) m
unfolding eval
literal-alone {m = m} c l e f x = let i : m ≡ lit l = cc in rw i x

pub empty-alone :
    {f : Formula} {ms : Formulas} (c : ℕ → List Kleene) (m : Members) {w : ℕ → Kleene} → m.count ≡ 0 → ms ≡ more f none → ms ≡ more (group m) (after_group m) →
    ((j : ℕ) → j < 64 → w j ≡ unit_value (group_of m.group)) → (j : ℕ) → j < 64 → w j ≡ eval three (c j) f
empty-alone {f} c m z e h u =
    let k = rw z at h in
    let i : f ≡ grouped (group_of m.group) none = cc in
    rw i (λ j l. u j l ∙ sym (eval-none (c j) (group_of m.group)))
