-- Two halls as one problem. They share no fact and no action, and the second hall's facts follow the first's.
use Rattle.std.specs.Prelude.{Bool, ◌||◌, cond, List, ◌++◌, map, ℕ, suc, ◌+◌, max, length, drop, ltb}
use Rattle.model.specs.declared.Lengths.{Lengths}
use Rattle.model.specs.Limits.{version2, limits_of, max_facts, max_actions, max_problem_bytes, max_formula_bytes, max_members, max_depth}
use Rattle.model.specs.Answer.{Answer, refused, answered, ◌>>=◌}
use Rattle.model.specs.Formula.{Literal, fact, denial, Formula, Formulas, lit, all, any, none, more}
use Rattle.model.specs.Action.{Effect, Action, tabulate}
use Rattle.model.specs.FormulaBytes.{member_count, formula_bytes}
use Rattle.model.specs.ProblemBytes.{Problem, problem_of, encode_problem}

-- ---- the second hall's facts, moved up by n

abbrev pub moved_literal : ℕ → Literal → Literal
moved_literal n (fact f) = fact (n + f)
moved_literal n (denial f) = denial (n + f)

unfoldable mutual
  pub moved : ℕ → Formula → Formula
  moved n (lit l) = lit (moved_literal n l)
  moved n (all ms) = all (moved_members n ms)
  moved n (any ms) = any (moved_members n ms)

  pub moved_members : ℕ → Formulas → Formulas
  moved_members n none = none
  moved_members n (more m ms) = more (moved n m) (moved_members n ms)

abbrev pub moved_effect : ℕ → Effect → Effect
moved_effect n e = record { literal = moved_literal n e.literal; condition = moved n e.condition }

abbrev pub moved_action : ℕ → Action → Action
moved_action n a = record { precondition = moved n a.precondition; effects = map (moved_effect n) a.effects }

-- ---- the "all" of two formulas

-- the members that a formula brings: an "all" is taken apart, and any other formula is one
abbrev pub parts : Formula → Formulas
parts (lit l) = more (lit l) none
parts (all ms) = ms
parts (any ms) = more (any ms) none

abbrev pub joined : Formulas → Formulas → Formulas
joined none ns = ns
joined (more m ms) ns = more m (joined ms ns)

abbrev pub both : Formula → Formula → Formula
both f g = all (joined (parts f) (parts g))

-- how many groups stand in one another
unfoldable mutual
  pub depth : Formula → ℕ
  depth (lit l) = 0
  depth (all ms) = suc (deepest ms)
  depth (any ms) = suc (deepest ms)

  pub deepest : Formulas → ℕ
  deepest none = 0
  deepest (more m ms) = max (depth m) (deepest ms)

-- over its limit of bytes, of members, or of groups in one another
unfoldable pub is_over : Formula → Bool
is_over f =
    ltb max_formula_bytes (length (formula_bytes f)) || (ltb max_members (member_count (parts f)) || ltb max_depth (depth f))

-- ---- the merged problem

-- both halls as one problem: the first hall's actions in their old order, and then the second's in theirs
abbrev pub halls : Problem → Problem → Problem
halls p q =
    record {
      facts = p.facts + q.facts;
      initial = both p.initial (moved p.facts q.initial);
      goal = both p.goal (moved p.facts q.goal);
      actions = p.actions ++ map (moved_action p.facts) q.actions;
    }

-- table of numbers: which new number each of so many old actions has, the first hall's first: its place among both halls' actions
abbrev pub new_numbers : ℕ → List ℕ
new_numbers count = tabulate count (λ i. i)

-- ---- the operation

-- what is asked of the merged problem, in this order: 82 over 64 facts, 83 over 64 actions, 84 a formula over a limit, 85 a block over 32,768
-- bytes; and 86 of buffers of that many bytes for the block and for the table, of which one is too short. All are refused at 0.
unfoldable pub sized : Problem → Answer Problem
sized r =
    cond (ltb max_facts r.facts)
    (refused 82 0)
    (cond (ltb max_actions (length r.actions))
    (refused 83 0)
    (cond (is_over r.initial || is_over r.goal)
    (refused 84 0)
    (cond (ltb max_problem_bytes (length (encode_problem version2 r))) (refused 85 0) (answered r))))

unfoldable pub roomy : ℕ → ℕ → Problem → Answer Problem
roomy room places r =
    cond (ltb room (length (encode_problem version2 r)) || ltb places (length r.actions)) (refused 86 0) (answered r)

-- the first problem's refusals, the second's, and then those
unfoldable pub merged_for : List ℕ → List ℕ → ℕ → ℕ → Answer Problem
merged_for first second room places = do
  p ← problem_of (limits_of first) first
  q ← problem_of (limits_of second) second
  r ← sized (halls p q)
  roomy room places r

-- what a call answers, and both buffers after it
pub record Merge : Type 0 where
  pub answer : Answer Lengths
  pub out : List ℕ
  pub table : List ℕ

-- a refusal leaves both as they were; else the one begins with the block, of version 2, and the other with the new numbers, a byte each. The
-- answer is their lengths.
unfoldable pub laid_out : List ℕ → List ℕ → Answer Problem → Merge
laid_out out table (refused n q) = record { answer = refused n q; out = out; table = table }
laid_out out table (answered r) =
    let size = length (encode_problem version2 r) in
    let count = length r.actions in
    record {
      answer = answered (record { block = size; table = count });
      out = encode_problem version2 r ++ drop size out;
      table = new_numbers count ++ drop count table;
    }

unfoldable pub merge : List ℕ → List ℕ → List ℕ → List ℕ → Merge
merge first second out table = laid_out out table (merged_for first second (length out) (length table))
