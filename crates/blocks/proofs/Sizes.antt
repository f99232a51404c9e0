-- How many bytes a problem's block has, and what a sound one's parts have at most. Assumes nothing.
use Rattle.std.proofs.Common.{◌≡◌, ap, List, ◌∷◌, ◌++◌, ℕ, ◌+◌, arith, length, length-append}
use Rattle.model.specs.declared.Limits.{Limits}
use Rattle.model.specs.Answer.{answered}
use Rattle.model.specs.Read.{bytes_of, block}
use Rattle.model.specs.FormulaBytes.{formula_bytes, encode_formula}
use Rattle.model.specs.ProblemBytes.{Problem, problem_of, actions_bytes, encode_problem}
use Rattle.model.specs.WellFormed.{Bytes, ProblemOk, Sensible}
use Rattle.model.proofs.Guarantees.{guarantees-hold}
use Rattle.model.proofs.Laws.Reading.{length-bytes_of}
use Rattle.blocks.specs.Actions.{Sized}

pub encoded-size :
    (F : Limits) (p : Problem) →
    length (encode_problem F p) ≡ 11 + length (formula_bytes p.initial) + length (formula_bytes p.goal) + length (actions_bytes p.actions)
unfolding encode_problem block encode_formula
encoded-size F p =
    let i = formula_bytes p.initial in
    let g = formula_bytes p.goal in
    let a = actions_bytes p.actions in
    let body = p.facts ∷ length p.actions ∷ ((bytes_of 2 (length i) ++ i) ++ ((bytes_of 2 (length g) ++ g) ++ a)) in
    let h = length-append (bytes_of 4 (length body)) body in
    let x = length-append (bytes_of 2 (length i) ++ i) ((bytes_of 2 (length g) ++ g) ++ a) in
    let y = length-append (bytes_of 2 (length g) ++ g) a in
    let u = length-append (bytes_of 2 (length i)) i in
    let v = length-append (bytes_of 2 (length g)) g in
    omega (arith, h, x, y, u, v, length-bytes_of 4 (length body), length-bytes_of 2 (length i), length-bytes_of 2 (length g))

pub whole-size :
    (F : Limits) (p : Problem) (block : List ℕ) → Sized F p block →
    length block ≡ 11 + length (formula_bytes p.initial) + length (formula_bytes p.goal) + length (actions_bytes p.actions)
whole-size F p block s = omega (arith, s.whole, encoded-size F p)

pub sound-sized : (F : Limits) (p : Problem) (block : List ℕ) → ProblemOk F p → block ≡ encode_problem F p → Sized F p block
sound-sized F p block ok e =
    record { initial = ok.initial.short; goal = ok.goal.short; whole = ap length e; short = rw e ok.short }

pub read-sized :
    (F : Limits) → Sensible F → (s : List ℕ) → Bytes s → (p : Problem) → problem_of F s ≡ answered p → Sized F p s
read-sized F sensible s bytes p e = let (ok, is) = (guarantees-hold F sensible).all_input.problem_sound s bytes p e in sound-sized F p s ok is
