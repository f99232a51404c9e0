-- The merged problem, piece after piece. Assumes nothing.
use Rattle.std.proofs.Common.{◌≡◌, refl, sym, ap, ◌∙◌, Bool, true, false, List, [], ◌∷◌, ◌++◌, append_assoc, map, ℕ, ◌-◌, ◌≤◌, arith, length, length-append, ltb, ltb-true, ltb-false}
use Rattle.model.specs.Limits.{version2, max_members}
use Rattle.model.specs.Formula.{Formula}
use Rattle.model.specs.Read.{bytes_of, block}
use Rattle.model.specs.FormulaBytes.{encode_formula, member_count}
use Rattle.model.specs.ProblemBytes.{Problem, actions_bytes, encode_problem}
use Rattle.model.specs.Merging.{moved_action, parts, is_over, halls}
use Rattle.model.proofs.Laws.Reading.{length-bytes_of}
use Rattle.merge.specs.Writing.{problem_head}
use Rattle.merge.proofs.{Sound.zero-actions, Sound.not-over, Sizes.actions-append}

pub head-pieces :
    (r : Problem) (v n f a : ℕ) → v ≡ 2 → n ≡ length (encode_problem version2 r) - 5 → f ≡ r.facts → a ≡ length r.actions →
    problem_head r ≡ v ∷ (bytes_of 4 n ++ (f ∷ a ∷ []))
unfolding problem_head
head-pieces r v n f a i j k l = rw (i, j, k, l)

-- f and g stand for the formulas of both
pub problem-pieces :
    (p q : Problem) (f g : Formula) → f ≡ (halls p q).initial → g ≡ (halls p q).goal →
    encode_problem version2 (halls p q) ≡
    problem_head (halls p q) ++
    (encode_formula f ++ (encode_formula g ++ actions_bytes (halls p q).actions))
unfolding encode_problem block problem_head
problem-pieces p q f g i j =
    let r = halls p q in
    let rest = encode_formula r.initial ++ (encode_formula r.goal ++ actions_bytes r.actions) in
    let body = r.facts ∷ length r.actions ∷ rest in
    let size : length (encode_problem version2 r) - 5 ≡ length body =
    omega (arith, length-append (bytes_of 4 (length body)) body, length-bytes_of 4 (length body)) in
    rw (i, j, size) (ap (λ (x : List ℕ). 2 ∷ x) (sym (append_assoc (bytes_of 4 (length body)) (r.facts ∷ length r.actions ∷ []) rest)))

-- the actions of both, the first hall's moved up by 0
pub both-actions :
    (p q : Problem) →
    actions_bytes (halls p q).actions ≡ actions_bytes (map (moved_action 0) p.actions) ++ actions_bytes (map (moved_action p.facts) q.actions)
both-actions p q = rw (zero-actions p.actions) (actions-append p.actions (map (moved_action p.facts) q.actions))

pub few-members : (f g : Formula) → f ≡ g → is_over g ≡ false → member_count (parts f) ≤ max_members
few-members f g i e = rw i (not-over g e).members
