-- The last lines of an explanation. Assumes nothing.
use Rattle.std.proofs.Common.{◌≡◌, refl, sym, ap, ◌∙◌, Bool, true, false, List, [], ◌∷◌, ◌++◌, append_assoc, map, ℕ, suc, ◌+◌, ◌-◌, ◌≤◌, length, drop, drop-drop, get_or, get_or-drop, add-zero, add-one, codes, arith}
use Rattle.model.specs.Kleene.{two}
use Rattle.model.specs.Action.{Action, applicable, step}
use Rattle.model.specs.Run.{holds_in, part_of, at_end, goes_on, run}
use Rattle.model.specs.Case.{state_of, run_of}
use Rattle.model.specs.ProblemBytes.{Problem, action_at}
use Rattle.model.specs.Operations.{task_of}
use Rattle.names.specs.Names.{Names}
use Rattle.told.specs.States.{state_text}
use Rattle.explain.specs.Rows.{rows}
use Rattle.explain.specs.Told.{step_head, changes_text, block_text, end_text, told, explanation}
use Rattle.explain.specs.Tells.{told_from}
use Rattle.explain.specs.Ending.{blocked_text, ending, EndsAsTheRun}
use Rattle.explain.proofs.Runs.{told-step, told-block}

-- a run has a row at least
rows-some : (n : ℕ) (plan : List Action) (c : List Bool) → 1 ≤ length (rows n plan c)
unfolding rows
rows-some n [] c = omega arith
rows-some n (a ∷ plan) c = omega arith

-- the last of rows, where one stands before them
last-after : (c : List Bool) (rs : List (List Bool)) → 1 ≤ length rs → get_or (c ∷ rs) (length (c ∷ rs) - 1) [] ≡ get_or rs (length rs - 1) []
last-after c [] h = absurd (omega arith)
last-after c (d ∷ rs) h = let i : suc (suc (length rs)) - 1 ≡ suc (suc (length rs) - 1) = omega arith in ap (λ (k : ℕ). get_or (c ∷ d ∷ rs) k []) i

module _ (N : Names) (p : Problem) where
  abbrev act : ℕ → Action
  act b = action_at p.actions b

  end-is : (c : List Bool) (b : Bool) (all : List ℕ) → holds_in two c p.goal ≡ b → end_text N p c ≡ ending N p all c (at_end b)
  unfolding end_text
  end-is c true all e = rw e refl
  end-is c false all e = rw e refl

  block-is : (a : Action) (c : List Bool) (b : Bool) → holds_in two c a.precondition ≡ b → block_text N p a c ≡ blocked_text N a c (part_of two p.facts a c)
  unfolding block_text part_of
  block-is a c true e = rw e refl
  block-is a c false e = rw e refl

  abbrev last : List ℕ → List Bool → List Bool
  last bs c = let cs = rows p.facts (map act bs) c in get_or cs (length cs - 1) []

  -- the text of the steps that are left, from number i on
  abbrev EndsSo : List ℕ → List ℕ → ℕ → List Bool → Type 0
  EndsSo all bs i c = (lead : List ℕ) × (told_from N p bs i c ≡ lead ++ ending N p all (last bs c) (run two p.facts p.goal (map act bs) i c))

  module _ (all : List ℕ) (b : ℕ) (bs : List ℕ) (i : ℕ) (c : List Bool) (e : b ∷ bs ≡ drop i all) where
    abbrev after : List Bool
    after = step two p.facts (act b) c

    first : b ≡ get_or all i 0
    first = ap (λ (x : List ℕ). get_or x 0 0) e ∙ rw (get_or-drop, add-zero) refl

    rest : bs ≡ drop (suc i) all
    rest = ap (λ (x : List ℕ). drop 1 x) e ∙ drop-drop 1 i all ∙ ap (λ (k : ℕ). drop k all) (add-one i)

    by-step : EndsSo all bs (suc i) after → (x : Bool) → applicable two p.facts (act b) c ≡ x → EndsSo all (b ∷ bs) i c
    unfolding rows run goes_on
    by-step (lead, is) true h =
        let head = step_head N i b in
        let changes = changes_text N c after 0 p.facts in
        let end = ending N p all (last bs after) (run two p.facts p.goal (map act bs) (suc i) after) in (
          head ++ (changes ++ (10 ∷ lead)),
          told-step N p i c b bs h ∙
              ap (λ (t : List ℕ). head ++ (changes ++ (10 ∷ t))) is ∙
              ap (λ (t : List ℕ). head ++ t) (sym (append_assoc changes (10 ∷ lead) end)) ∙
              sym (append_assoc head (changes ++ (10 ∷ lead)) end) ∙
              rw (h, last-after c (rows p.facts (map act bs) after) (rows-some p.facts (map act bs) after)) refl,
        )
    by-step ih false h = (
      [],
      told-block N p i c b bs h ∙ rw (h, block-is (act b) c (holds_in two c (act b).precondition) refl, ← first) refl,
    )

  ends-from : (all bs : List ℕ) (i : ℕ) (c : List Bool) → bs ≡ drop i all → EndsSo all bs i c
  unfolding told rows run
  ends-from all [] i c e = ([], end-is c (holds_in two c p.goal) all refl)
  ends-from all (b ∷ bs) i c e = by-step all b bs i c e (ends-from all bs (suc i) (after all b bs i c e) (rest all b bs i c e)) (applicable two p.facts (act b) c) refl

pub ends-as-the-run : EndsAsTheRun
unfolding explanation task_of run_of
ends-as-the-run N F p steps s =
    let c = state_of F.width p.facts s in
    let (lead, is) = ends-from N p steps steps 0 c refl in
    let start = codes "start: " in
    let state = state_text N F p.facts s in
    let end = ending N p steps (last N p steps c) (run two p.facts p.goal (map (act N p) steps) 0 c) in (
      start ++ (state ++ (10 ∷ lead)),
      ap (λ (t : List ℕ). start ++ (state ++ (10 ∷ t))) is ∙
          ap (λ (t : List ℕ). start ++ t) (sym (append_assoc state (10 ∷ lead) end)) ∙
          sym (append_assoc start (state ++ (10 ∷ lead)) end),
    )
