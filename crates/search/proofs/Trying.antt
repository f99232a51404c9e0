-- A plan judged with the visits left, and plans one after another. Assumes nothing.
use Rattle.std.proofs.Common.{◌≡◌, refl, sym, ap, ap₂, ◌∙◌, List, [], ◌∷◌, ◌++◌, map, append_assoc, ℕ, suc, ◌+◌, ◌-◌, ◌≤◌, arith, Ok, Err}
use mathlib.Core.List.{map-append}
use lib.Seq.{append_snoc}
use Rattle.model.specs.Walk.{Line, covered, failed, visits, walked}
use Rattle.model.specs.Operations.{task_of}
use Rattle.model.specs.Search.{each_step, search}
use Rattle.model.proofs.Laws.Judging.{judged-in, judged-out}
use Rattle.model.specs.Kleene.{Kleene}
use Rattle.model.proofs.Laws.Splitting.{case-first}
use Rattle.cases.specs.Cases.{case_of}
use Rattle.cases.specs.Blocks.{block_case}
use Rattle.blocks.specs.declared.problem.Problem.{Problem}
use Rattle.runs.specs.Looks.{Reaches, LooksAt, looks_of}
use Rattle.walk.specs.Lanes.{block_of, first_levels}
use Rattle.runs.proofs.Running.{looks-at, looks-same}
use Rattle.walk.specs.declared.visits.Closed.{Closed}
use Rattle.walk.specs.declared.visits.Stopped.TheVariants.{OutOfVisits, Failed}
use Rattle.walk.specs.Walks.{Walks}
use Rattle.search.specs.declared.plan.Root.{Root}
use Rattle.search.specs.declared.plan.Ended.TheVariants.{Right, Undecided}
use Rattle.search.specs.Beginning.{task_with}
use Rattle.search.specs.Trying.{Comes}

-- ---- one plan

-- what a visit finds of the first block
pub first-looks :
    (root : Root) (plan : List ℕ) (carries : ℕ) → Reaches (task_with root.problem.now plan) root.starts (case_of root.lanes.now) carries →
    let T = task_with root.problem.now plan in
    let facts = root.problem.now.facts in
    LooksAt T (block_of T.width facts 0 0 (first_levels facts)) (looks_of root.starts carries)
unfolding task_of
first-looks root plan carries R =
    let T = task_with root.problem.now plan in
    let facts = root.problem.now.facts in
    looks-same T _ _ (looks_of root.starts carries)
    (λ j l. root.first j l ∙ ap (λ (x : List Kleene). block_case x 0 (first_levels facts) j) (sym (case-first T.width facts)))
    (looks-at T (case_of root.lanes.now) root.starts root.not_empty carries R)

-- a state has a bit for each fact
fits : (p : Problem) (plan : List ℕ) → (task_with p plan).facts ≤ (task_with p plan).width
unfolding task_of
fits p plan = omega (arith, p.few_facts, p.sensible.width)

-- the visits used before, where so many are left
spent : (grant left : ℕ) → left ≤ grant → grant - (grant - left) ≡ left
spent grant left h = omega arith

module _ (p : Problem) (plan : List ℕ) (left : ℕ) where
  pub right-tried :
      {L : Type 0} {puts : L → List Line → L → Type 0} {old new : L} (c : Closed) → Walks puts (walked (task_with p plan)) left old (Ok c) new →
      Comes p (plan ∷ []) left (Err (Right plan c.left))
  unfolding search
  right-tried c W =
      record {
        within = W.counted.0;
        is =
            λ grant h after.
            let u : (grant - left) + (left - c.left) ≡ grant - c.left = omega (arith, W.counted.0) in
            rw (spent grant left h, judged-in _ (fits p plan) left (covered W.closed (left - c.left)) W.is (omega (arith, ap visits W.is)), u);
      }

  pub undecided-tried :
      {L : Type 0} {puts : L → List Line → L → Type 0} {old new : L} → Walks puts (walked (task_with p plan)) left old (Err OutOfVisits) new →
      Comes p (plan ∷ []) left (Err (Undecided plan))
  unfolding search
  undecided-tried W = record { within = tt; is = λ grant h after. rw (spent grant left h, judged-out _ (fits p plan) left W.is) }

  pub wrong-tried :
      {L : Type 0} {puts : L → List Line → L → Type 0} {old new : L} (s rest : ℕ) → Walks puts (walked (task_with p plan)) left old (Err (Failed s rest)) new →
      Comes p (plan ∷ []) left (Ok rest)
  unfolding search
  wrong-tried s rest W =
      record {
        within = W.counted;
        is =
            λ grant h after.
            let u : (grant - left) + (left - rest) ≡ grant - rest = omega (arith, W.counted) in
            rw (spent grant left h, judged-in _ (fits p plan) left (failed s (left - rest)) W.is (omega (arith, ap visits W.is)), u);
      }

-- ---- plans that begin alike

-- a step is the last of what comes first, or the first of what comes after
step-moves : (first : List ℕ) (a : ℕ) (qs : List (List ℕ)) → map (λ q. first ++ q) (map (λ q. a ∷ q) qs) ≡ map (λ q. (first ++ a ∷ []) ++ q) qs
step-moves first a [] = refl
step-moves first a (q ∷ qs) = ap₂ (λ (x : List ℕ) (l : List (List ℕ)). x ∷ l) (sym (append_snoc first a q)) (step-moves first a qs)

-- the next step, and then those after it
pub steps_next :
    (first : List ℕ) (n a : ℕ) (qs after : List (List ℕ)) →
    map (λ q. first ++ q) (each_step (suc n) a qs) ++ after ≡ map (λ q. (first ++ a ∷ []) ++ q) qs ++ (map (λ q. first ++ q) (each_step n (suc a) qs) ++ after)
unfolding each_step
steps_next first n a qs after =
    ap (λ (l : List (List ℕ)). l ++ after) (map-append (λ q. first ++ q) (map (λ q. a ∷ q) qs) (each_step n (suc a) qs)) ∙
    append_assoc (map (λ q. first ++ q) (map (λ q. a ∷ q) qs)) (map (λ q. first ++ q) (each_step n (suc a) qs)) after ∙
    ap (λ (l : List (List ℕ)). l ++ (map (λ q. first ++ q) (each_step n (suc a) qs) ++ after)) (step-moves first a qs)
