-- The walk over cases, and the verdict under a grant.
use Rattle.std.specs.Prelude.{cond, List, [], ◌∷◌, ◌++◌, ℕ, zero, suc, ◌+◌, ◌-◌, ◌^◌, leb}
use Rattle.model.specs.Kleene.{Kleene, No, Unknown, Yes, three}
use Rattle.model.specs.Formula.{eval}
use Rattle.model.specs.Run.{Outcome, reached, missed, blocked, run}
use Rattle.model.specs.Case.{case_of, Task, run_of}

-- what a line claims of its case, by the number in its bytes: that it is empty (0), or that it carries (1)
pub data Kind : Type 0 where
  empty carries : Kind

abbrev pub kind_number : Kind → ℕ
kind_number empty = 0
kind_number carries = 1

-- what a visit finds of a case: that it is closed, since it is empty or carries, or that it is open
pub data Look : Type 0 where
  closed : Kind → Look
  opened : Look

-- lines: a line has its kind, how many facts it fixes, and the number at which it begins
pub record Line : Type 0 where
  pub kind : ℕ
  pub k : ℕ
  pub value : ℕ

abbrev pub line : Kind → ℕ → ℕ → Line
line κ k v = record { kind = kind_number κ; k = k; value = v }

-- how the walk ends: all closed, with a line for each closed case in order, or at a failing start state; and the visits
pub data Walked : Type 0 where
  covered : List Line → ℕ → Walked
  failed : ℕ → ℕ → Walked

-- visits: how many cases were looked at
abbrev pub visits : Walked → ℕ
visits (covered ls a) = a
visits (failed s a) = a

-- a split case: one visit, and the visits of its two parts; the second part is not looked at where the first fails
abbrev pub join : Walked → Walked → Walked
join (covered ls a) (covered ms b) = covered (ls ++ ms) (suc (a + b))
join (covered ls a) (failed s b) = failed s (suc (a + b))
join (failed s a) r = failed s (suc a)

-- the walk of a case, of which a visit finds out first. A closed case ends there, with its line; an open one is split on its next fact, which is no
-- and then yes; where no fact is left, an open case is a failing start state, and ends the whole walk.
module _ (w : ℕ) (look : ℕ → ℕ → Look) where
  -- the walk from the case (k, v), which looks so, with d facts still open
  unfoldable pub walk_from : ℕ → Look → ℕ → ℕ → Walked
  walk_from zero (closed κ) k v = covered (line κ k v ∷ []) 1
  walk_from zero opened k v = failed v 1
  walk_from (suc d) (closed κ) k v = covered (line κ k v ∷ []) 1
  walk_from (suc d) opened k v =
      let m = v + 2 ^ (w - suc k) in
      let r = walk_from d (look (suc k) m) (suc k) m in
      join (walk_from d (look (suc k) v) (suc k) v) r

  -- walk: from the case that fixes no fact
  unfoldable pub walk : ℕ → Walked
  walk n = walk_from n (look 0 0) 0 0

abbrev pub look_end : Outcome → Look
look_end reached = closed carries
look_end missed = opened
look_end (blocked s) = opened

-- what a visit finds: empty where the initial formula is no; otherwise the case carries if its run, with three values, is reached: every precondition
-- yes in turn, no fact set and cleared at once, and the goal yes at the end
abbrev pub look_of : Kleene → Outcome → Look
look_of No r = closed empty
look_of Unknown r = look_end r
look_of Yes r = look_end r

-- the judge's answer; `right` has the lines, or their count
pub data Verdict (A : Type 0) : Type 0 where
  right : A → ℕ → Verdict A
  wrong : ℕ → Outcome → ℕ → Verdict A
  undecided : ℕ → Verdict A

module _ (T : Task) where
  -- the initial formula, and the run, in the case (k, v)
  abbrev pub initial_at : ℕ → ℕ → Kleene
  initial_at k v = eval three (case_of T.width T.facts k v) T.initial

  abbrev pub run_at : ℕ → ℕ → Outcome
  run_at k v = run three T.facts T.goal T.plan 0 (case_of T.width T.facts k v)

  -- closed cases: what a visit finds of the case (k, v)
  unfoldable pub look_at : ℕ → ℕ → Look
  look_at k v = let r = run_at k v in look_of (initial_at k v) r

  unfoldable pub walked : Walked
  walked = walk T.width look_at T.facts

  abbrev pub found : Walked → Verdict (List Line)
  found (covered ls a) = right ls a
  found (failed s a) = wrong s (run_of T s) a

  -- the verdict: undecided, with the whole grant as its visits, where the walk needs more
  abbrev pub granted : ℕ → Walked → Verdict (List Line)
  granted g r = cond (leb (visits r) g) (found r) (undecided g)

  -- grant: the verdict on the plan, under a grant
  unfoldable pub judged : ℕ → Verdict (List Line)
  judged g = granted g walked
