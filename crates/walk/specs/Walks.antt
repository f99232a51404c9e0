-- How a walk ends, whatever it walks over and whatever becomes of its lines.
use Rattle.std.specs.Prelude.{◌≡◌, List, ℕ, ◌-◌, ◌≤◌, ◌<◌, length, Result, Ok, Err}
use Rattle.model.specs.Walk.{Line, Walked, covered, failed, visits}
use Rattle.walk.specs.declared.visits.Closed.{Closed}
use Rattle.walk.specs.declared.visits.Stopped.{Stopped}
use Rattle.walk.specs.declared.visits.Stopped.TheVariants.{OutOfVisits, Failed}

-- the walk w, with so many visits granted and the lines ls: all closed, or more visits are needed, or it failed at s
abbrev pub Ended : ℕ → List Line → Result Closed Stopped → Walked → Type 0
Ended g ls (Ok c) w = w ≡ covered ls (g - c.left)
Ended g ls (Err OutOfVisits) w = g < visits w
Ended g ls (Err (Failed s left)) w = w ≡ failed s (g - left)

-- the lines are counted, no more than there were visits
abbrev pub Counted : ℕ → List Line → Result Closed Stopped → Type 0
Counted g ls (Ok c) = (c.left ≤ g) × (c.lines ≡ length ls) × (c.lines ≤ g - c.left)
Counted g ls (Err OutOfVisits) = Unit {0}
Counted g ls (Err (Failed s left)) = left ≤ g

-- the walk w, cut at the grant, and its lines
pub record Walks {L : Type 0} (puts : L → List Line → L → Type 0) (w : Walked) (g : ℕ) (old : L) (r : Result Closed Stopped) (new : L) : Type 0 where
  pub closed : List Line
  pub put : puts old closed new
  pub counted : Counted g closed r
  pub is : Ended g closed r w
