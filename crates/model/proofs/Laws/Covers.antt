-- The running value of a list that was read: what following makes of it, and each prefix of its lines. Assumes nothing.
use Rattle.model.proofs.Words.{◌≡◌, refl, sym, ap, ◌∙◌, ◌⊎◌, List, ℕ, ◌≤◌, ◌<◌, arith, length, take, length-take, length-drop, take-take, Limits, Answer, refused, answered, Task, Line, look_at, CoversTo, cover_end, FaultAt, list_of, cover_read}
use Rattle.model.specs.Answer as Answer
use Rattle.model.proofs.Laws.RunningEnd.{covers-to, end_kept, fault-at}
use Rattle.model.proofs.Laws.Tasks.{answer-then, refusal-of, cover-is}

module _ (F : Limits) (R : Answer Task) (list : List ℕ) where
  -- what has a running value was read
  pub cover-read :
      (m e : ℕ) → cover_read F R list m ≡ answered e →
      (T : Task) × (R ≡ answered T) × (ls : List Line) × (list_of F list ≡ answered ls)
  unfolding cover_read
  cover-read m e h = answer-then h λ T g h₁. answer-then h₁ λ ls r h₂. (T, g, ls, r)

  -- what has none was refused as a task or as a block, or was read
  pub cover-refusal :
      (m f q : ℕ) → cover_read F R list m ≡ refused f q →
      (R ≡ refused f q) ⊎
      ((T : Task) × (R ≡ answered T) × ((list_of F list ≡ refused f q) ⊎ ((ls : List Line) × (list_of F list ≡ answered ls))))
  unfolding cover_read
  cover-refusal m f q h = grind (arith, refusal-of)

  module _ (T : Task) (given : R ≡ answered T) (ls : List Line) (read : list_of F list ≡ answered ls) where
    cover-lines : (m : ℕ) → cover_read F R list m ≡ cover_end T.width (look_at T) T.facts (take m ls) 0 0
    unfolding Answer.◌>>=◌
    cover-lines m = rw given (cover-is F T list m ∙ rw read refl)

    pub cover-covers : (m e : ℕ) → cover_read F R list m ≡ answered e → CoversTo T.width (take m ls) e
    cover-covers m e h = covers-to T.width (look_at T) T.facts (take m ls) e (sym (cover-lines m) ∙ h)

    -- the first i of m lines, where these are without a fault
    pub cover-kept :
        (m i : ℕ) → i ≤ m → ((f p : ℕ) → cover_read F R list m ≡ refused f p → i ≤ p) →
        (e : ℕ) × (cover_read F R list i ≡ answered e) × CoversTo T.width (take i ls) e
    cover-kept m i l h = grind (arith, (end_kept T.width (look_at T) T.facts), (cover-lines m), (cover-lines i), take-take)

    -- a fault of m lines is that of one of them
    pub cover-fault-at : (m f q : ℕ) → cover_read F R list m ≡ refused f q → FaultAt T.width (look_at T) T.facts (take m ls) f q × (q < m)
    cover-fault-at m f q h =
        let o = fault-at T.width (look_at T) T.facts (take m ls) f q (sym (cover-lines m) ∙ h) in
        (o, grind (arith, length-drop, length-take, (ap length o.stands)))
