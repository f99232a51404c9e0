-- What an answer of following a list promises, and one of the cover after some of its lines.
use Rattle.std.specs.Prelude.{◌≡◌, ◌≢◌, ◌⊎◌, List, ℕ, ◌^◌, ◌≤◌, length, take}
use Rattle.model.specs.declared.Limits.{Limits}
use Rattle.model.specs.Answer.{Answer, refused, answered}
use Rattle.model.specs.Case.{Task}
use Rattle.model.specs.Walk.{Line, look_at}
use Rattle.model.specs.Cover.{CoversTo, cover_end, FaultAt}
use Rattle.model.specs.ListBytes.{list_of}
use Rattle.model.specs.Operations.{cover_read}
use Rattle.model.specs.Guarantees.{Passing}

-- no line is at fault, and what they cover together does not end where the width does: the number is 70, and the place the line count
pub record EndsElsewhere (T : Task) (lines : List Line) (n q : ℕ) : Type 0 where
  pub end : ℕ
  pub no_fault : cover_end T.width (look_at T) T.facts lines 0 0 ≡ answered end
  pub covers : CoversTo T.width lines end
  pub not_whole : end ≢ 2 ^ T.width
  pub number : n ≡ 70
  pub place : q ≡ length lines

module _ (F : Limits) (R : Answer Task) (list : List ℕ) where
  -- what a refusal of following is of: what was read; the list's block; the first line at fault; or the end
  abbrev pub FollowRefusedFor : ℕ → ℕ → Type 0
  FollowRefusedFor n q =
      (R ≡ refused n q) ⊎
      ((T : Task) × (R ≡ answered T) ×
      ((list_of F list ≡ refused n q) ⊎
      ((lines : List Line) × (list_of F list ≡ answered lines) ×
      (FaultAt T.width (look_at T) T.facts lines n q ⊎ EndsElsewhere T lines n q))))

  -- All input, of the code: a list passes exactly if it is `Passing`. It is an `ensures` of `follow_list`, so that every element is a byte by
  -- the slice's type, and by no hypothesis. A refusal has the number and the place of what it is of.
  abbrev pub FollowPromised : Answer ℕ → Type 0
  FollowPromised (refused n q) =
      FollowRefusedFor n q × ((T : Task) → R ≡ answered T → (lines : List Line) → Passing F T list lines → ⊥)
  FollowPromised (answered m) = (T : Task) × (R ≡ answered T) × (lines : List Line) × Passing F T list lines × (m ≡ length lines)

  -- The running value, of the code: it is asked for after any count of lines: after the first i of them it has a value, and that is the end of what
  -- they cover together
  pub record EndKept (T : Task) (lines : List Line) (i : ℕ) : Type 0 where
    pub end : ℕ
    pub answers : cover_read F R list i ≡ answered end
    pub covers : CoversTo T.width (take i lines) end

  -- so it is for every prefix of lines without a fault: of those asked for, or of those before the first fault. Any other refusal is that of what was
  -- read, or of the list's block.
  abbrev pub CoverPromised : ℕ → Answer ℕ → Type 0
  CoverPromised m (answered e) =
      (T : Task) × (R ≡ answered T) ×
      (lines : List Line) × (list_of F list ≡ answered lines) ×
      CoversTo T.width (take m lines) e ×
      ((i : ℕ) → i ≤ m → EndKept T lines i)
  CoverPromised m (refused n q) =
      (R ≡ refused n q) ⊎
      ((T : Task) × (R ≡ answered T) ×
      ((list_of F list ≡ refused n q) ⊎
      ((lines : List Line) × (list_of F list ≡ answered lines) ×
      FaultAt T.width (look_at T) T.facts (take m lines) n q ×
      ((i : ℕ) → i ≤ q → EndKept T lines i))))
