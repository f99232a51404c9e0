-- A whole list, and the answer of the call that writes it. Assumes nothing.
use Rattle.std.proofs.Common.{◌≡◌, refl, sym, ap, ◌∙◌, subst, List, [], ◌++◌, ℕ, ◌+◌, ◌-◌, ◌*◌, ◌≤◌, ◌<◌, arith, length, drop, lt-ltb, le-ltb, Result, Ok, Err}
use lib.Seq.{sets, sets-eq, length-sets}
use Rattle.model.specs.{declared.Limits.Limits, Answers.refusal, Answer.Answer, Answer.refused, Answer.answered}
use Rattle.model.specs.{Walk.Line, Walk.Walked, Walk.covered, Walk.failed, Walk.visits, Walk.walked, Walk.judged, Walk.found, Read.head_bytes, Read.block}
use Rattle.model.specs.ListBytes.{lines_bytes, encode_list}
use Rattle.model.specs.Operations.{list_bytes, lines_for, lines_read, written, write_read}
use Rattle.model.specs.{declared.Refusal.Refusal, Faults.fault_number, WellFormed.Sensible}
use Rattle.model.specs.Answer as Answer
use Rattle.model.specs.Case as model
use Rattle.model.proofs.{Laws.ListCodec.length-lines, Laws.Reading.length-bytes_of, Laws.Lists.length-encode_list, Laws.Judging.judged-in, Laws.Judging.judged-out}
use Rattle.model.proofs.{Laws.Tasks.lines-is, Laws.Stores.sets-append}
use Rattle.blocks.specs.declared.task.Task as blocks
use Rattle.blocks.specs.Values as values
use Rattle.blocks.proofs.Tasks.{facts-fit}
use Rattle.walk.specs.{Pages.PutsLines, declared.page.Page.Page, declared.visits.Closed.Closed, declared.visits.Stopped.Stopped}
use Rattle.walk.specs.{declared.visits.Stopped.TheVariants.OutOfVisits, declared.visits.Stopped.TheVariants.Failed, Walks.Ended, Walks.Walks}
use Rattle.certificate.specs.Writing.{head_of, WritesTask}

-- ---- the block

-- a header and the lines after it are the block, and the rest is as it was
block_written :
    (F : Limits) → Sensible F → (before after : List ℕ) (ls : List Line) (n : ℕ) → n ≡ F.line * length ls → head_bytes + n ≤ length before →
    after ≡ sets (sets before 0 (head_of F n)) head_bytes (lines_bytes F ls) → after ≡ encode_list F ls ++ drop (head_bytes + n) before
unfolding encode_list block list_bytes
block_written F S before after ls n e room h =
    let z : n ≡ length (lines_bytes F ls) = omega (arith, length-lines F S [] ls) in
    let g : head_bytes ≡ 0 + length (head_of F n) = omega (arith, length-bytes_of 4 n) in
    let k : head_of F n ++ lines_bytes F ls ≡ encode_list F ls = ap (λ (x : ℕ). head_of F x ++ lines_bytes F ls) z in
    let m : 0 + length (encode_list F ls) ≡ head_bytes + n = omega (arith, length-encode_list F S ls) in
    h ∙
    ap (λ (x : ℕ). sets (sets before 0 (head_of F n)) x (lines_bytes F ls)) g ∙
    sym (sets-append (head_of F n) (lines_bytes F ls) before 0) ∙
    ap (sets before 0) k ∙
    sets-eq (encode_list F ls) before 0 (omega arith) ∙
    ap (λ (x : ℕ). encode_list F ls ++ drop x before) m

-- a walk that closes within its grant closed these lines
closes-covered : (g : ℕ) (closed : List Line) (r : Result Closed Stopped) (w : Walked) → Ended g closed r w → (ls : List Line) (a : ℕ) → w ≡ covered ls a → a ≤ g → closed ≡ ls
closes-covered g closed (Ok c) w E ls a e h = cc
closes-covered g closed (Err OutOfVisits) w E ls a e h = absurd (omega (arith, ap visits e))
closes-covered g closed (Err (Failed s left)) w E ls a e h = cc

pub writes-task :
    (F : Limits) → Sensible F → (w : Walked) (g body : ℕ) (before after : List ℕ) (p q : Page) (r : Result Closed Stopped) → head_bytes + body ≤ length before →
    p.out.now ≡ sets before 0 (head_of F body) → p.at ≡ head_bytes → Walks (PutsLines F) w g p r q → after ≡ q.out.now → WritesTask F w g body before after
writes-task F S w g body before after p q r room em at W e ls a c h b =
    let z : W.closed ≡ ls = closes-covered g W.closed r w W.is ls a c h in
    let k = (rw z at W.put.laid) (omega (arith, ap length em, length-sets before 0 (head_of F body))) in
    block_written F S before after ls body b room (e ∙ k.bytes ∙ (λ j. sets (em j) (at j) (lines_bytes F ls)))

-- ---- the answer

-- what a call that writes answers and leaves
abbrev pub Left : Limits → Answer model.Task → ℕ → List ℕ → Answer ℕ → List ℕ → Type 0
Left F R g before a after = (a ≡ (write_read F R g before).answer) × (after ≡ (write_read F R g before).buffer)

left-refused :
    (F : Limits) (R : Answer model.Task) (g : ℕ) (before : List ℕ) (n q : ℕ) → lines_read F R g (length before) ≡ refused n q →
    Left F R g before (refused n q) before
unfolding write_read written
left-refused F R g before n q e = rw e (refl, refl)

-- what the readers refused
pub list-refused :
    (F : Limits) (R : Answer model.Task) (r : Refusal) → R ≡ refusal r → (g : ℕ) (before : List ℕ) → Left F R g before (refusal r) before
unfolding lines_read Answer.◌>>=◌
list-refused F R r h g before = left-refused F R g before (fault_number r.fault) r.place (rw h)

-- what is so of the task that was read
pub list-found :
    (F G : Limits) (R : Answer model.Task) (T : model.Task) → R ≡ answered T → G ≡ F → (g : ℕ) (before : List ℕ) (a : Answer ℕ) (after : List ℕ) →
    Left G (answered T) g before a after → Left F R g before a after
list-found F G R T h limits g before a after l = rw (h, ← limits) l

module _ (lent : blocks.Task) (g : ℕ) (before : List ℕ) {L : Type 0} (puts : L → List Line → L → Type 0) (old new : L) where
  abbrev F : Limits
  F = lent.problem.now.limits

  abbrev T : model.Task
  T = values.task lent

  abbrev Leaves : Answer ℕ → List ℕ → Type 0
  Leaves a after = Left F (answered T) g before a after

  for : lines_read F (answered T) g (length before) ≡ lines_for F (length before) (judged T g)
  for = lines-is F T g (length before)

  found_as : (x : Walked) → walked T ≡ x → visits (walked T) ≤ g → lines_read F (answered T) g (length before) ≡ lines_for F (length before) (found T x)
  found_as x e l = for ∙ ap (lines_for F (length before)) (judged-in T (facts-fit lent) g x e l)

  pub list-undecided : Walks puts (walked T) g old (Err OutOfVisits) new → Leaves (refused 50 g) before
  unfolding lines_for
  list-undecided W = left-refused F _ g before 50 g (for ∙ ap (lines_for F (length before)) (judged-out T (facts-fit lent) g W.is))

  pub list-wrong : (x left : ℕ) → Walks puts (walked T) g old (Err (Failed x left)) new → Leaves (refused 51 (g - left)) before
  unfolding lines_for
  list-wrong x left W = left-refused F _ g before 51 (g - left) (found_as (failed x (g - left)) W.is (omega (arith, ap visits W.is)))

  module _ (c : Closed) (W : Walks puts (walked T) g old (Ok c) new) where
    -- the lines of a right plan
    right-for : lines_read F (answered T) g (length before) ≡ lines_for F (length before) (found T (covered W.closed (g - c.left)))
    right-for = found_as (covered W.closed (g - c.left)) W.is (omega (arith, ap visits W.is))

    pub list_over : F.lines < c.lines → Leaves (refused 52 c.lines) before
    unfolding lines_for
    list_over k =
        left-refused F _ g before 52 c.lines (right-for ∙ rw (W.counted.1, lt-ltb F.lines (length W.closed) (omega (arith, W.counted.1))))

    module _ (few : c.lines ≤ F.lines) where
      pub list-short : length before < head_bytes + F.line * c.lines → Leaves (refused 53 c.lines) before
      unfolding lines_for list_bytes
      list-short m =
          let u : length before < head_bytes + F.line * length W.closed = subst (λ (x : ℕ). length before < head_bytes + F.line * x) W.counted.1 m in
          left-refused F _ g before 53 c.lines
          (right-for ∙ rw (W.counted.1, le-ltb F.lines (length W.closed) (omega (arith, W.counted.1)), lt-ltb (length before) (head_bytes + F.line * length W.closed) u))

      pub list_written :
          (after : List ℕ) (body : ℕ) → body ≡ F.line * c.lines → head_bytes + body ≤ length before →
          WritesTask F (walked T) g body before after → Leaves (answered (head_bytes + body)) after
      unfolding lines_for list_bytes write_read written
      list_written after body b m P =
          let z : body ≡ F.line * length W.closed = b ∙ ap (λ (x : ℕ). F.line * x) W.counted.1 in
          let q : lines_read F (answered T) g (length before) ≡ answered W.closed =
          right-for ∙ rw (le-ltb F.lines (length W.closed) (omega (arith, W.counted.1)), le-ltb (length before) (head_bytes + F.line * length W.closed) (omega arith))
          in
          rw (q, z) (refl, P W.closed (g - c.left) W.is (omega arith) z ∙ rw z)
