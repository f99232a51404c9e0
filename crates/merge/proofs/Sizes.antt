-- How many bytes two halls take as one problem, and that no sum of these wraps. Assumes nothing.
use Rattle.std.proofs.Common.{◌≡◌, refl, sym, ap, List, [], ◌∷◌, ◌++◌, append_assoc, map, ℕ, ◌+◌, ◌≤◌, arith, length, length-append}
use Rattle.model.specs.Limits.{max_problem_bytes}
use Rattle.model.specs.Action.{Action}
use Rattle.model.specs.declared.Limits.{Limits}
use Rattle.model.specs.FormulaBytes.{formula_bytes}
use Rattle.model.specs.ProblemBytes.{Problem, actions_bytes, encode_problem}
use Rattle.model.specs.Merging.{moved_action, halls}
use Rattle.formula.specs.Views.{formulas}
use Rattle.blocks.specs.Actions.{Sized}
use Rattle.blocks.proofs.Sizes.{encoded-size, whole-size}
use Rattle.merge.specs.declared.both.Both.{Both}
use Rattle.merge.specs.Views.{both_of}
use Rattle.merge.proofs.Members.{both-bytes}
use Rattle.merge.proofs.Writing.{moved-actions-length}

pub both-small : (b : Both) → length (formula_bytes (both_of b)) ≤ 2050
both-small b = omega (arith, both-bytes b.shift (formulas b.first.formulas) (formulas b.second.formulas), b.first_short, b.second_short)

pub actions-append : (as' bs : List Action) → actions_bytes (as' ++ bs) ≡ actions_bytes as' ++ actions_bytes bs
unfolding actions_bytes
actions-append [] bs = refl
actions-append (a ∷ as') bs = rw (actions-append as' bs) (sym (append_assoc _ (actions_bytes as') (actions_bytes bs)))

-- how many bytes both take
pub halls-bytes :
    (F : Limits) (p q : Problem) →
    length (encode_problem F (halls p q)) ≡
    7 + (4 + length (formula_bytes (halls p q).initial) + length (formula_bytes (halls p q).goal)) + (length (actions_bytes p.actions) + length (actions_bytes q.actions))
halls-bytes F p q =
    let moved = map (moved_action p.facts) q.actions in
    let l = length-append (actions_bytes p.actions) (actions_bytes moved) in
    omega (arith, encoded-size F (halls p q), ap length (actions-append p.actions moved), l, moved-actions-length p.facts q.actions)

pub actions-small : (F : Limits) (p : Problem) (block : List ℕ) → Sized F p block → length (actions_bytes p.actions) ≤ max_problem_bytes
actions-small F p block s = omega (arith, whole-size F p block s, s.short)
