-- Following line by line, the running value, and the test of it. Assumes nothing.
use Rattle.std.proofs.Common.{◌≡◌, refl, sym, ap, ap₂, ◌∙◌, Bool, true, false, cond, List, ◌∷◌, ℕ, zero, suc, ◌+◌, ◌-◌, ◌*◌, ◌%◌, ◌^◌, ◌≤◌, ◌<◌, mul-zero, mul-add, mul-le-mul_left, add-one, arith, length, take, eqb, eq-eqb, ne_eqb, min}
use Rattle.model.specs.declared.Limits.{Limits}
use Rattle.model.specs.Answer as Answer
use Rattle.model.specs.Answer.{Answer, refused, answered}
use Rattle.model.specs.Read.{Read, reject, got, and_then, ◌>>◌, done, require, answer_of, head_bytes, header}
use Rattle.model.specs.Operations.{follow_read, cover_read}
use Rattle.model.specs.Answers.{refusal}
use Rattle.model.specs.Guarantees.{lines_in}
use Rattle.model.specs.declared.Refusal.{Refusal}
use Rattle.model.specs.Case.{Task}
use Rattle.model.specs.WellFormed.{Sensible}
use Rattle.model.specs.Walk as model
use Rattle.model.specs.Walk.{look_at}
use Rattle.model.specs.CaseList.{refuse_at, ends, fault, follow}
use Rattle.model.specs.Cover.{cover_end}
use Rattle.model.specs.ListBytes.{line_at, lines_from, of_the_problem, case_list, list_of}
use Rattle.model.proofs.Laws.ListCodec.{length-lines_from}
use Rattle.model.proofs.Laws.Tasks.{cover-is, follow-is}
use Rattle.model.proofs.Laws.RunningEnd.{same_answers}
use Rattle.std.proofs.lemmas.List.{take_min}
use Rattle.fields.proofs.Readers.{header-got}
use Rattle.blocks.specs.declared.task.Task as values
use Rattle.blocks.specs.Values.{task}
use Rattle.lines.specs.declared.reader.ListReader.{ListReader}
use Rattle.lines.specs.Readers.{LineStands, line_here}
use Rattle.follow.specs.Follows.{line_answer, end_of_lines}

-- ---- the lines one by one

-- lines from number i on, where those before end at x
abbrev pub rest_of_lines : Task → List model.Line → ℕ → ℕ → Answer ℕ
rest_of_lines T ls i x = cover_end T.width (look_at T) T.facts ls i x

abbrev pub from-line : Limits → Task → List ℕ → ℕ → ℕ → ℕ → Answer ℕ
from-line F T list m i x = rest_of_lines T (lines_from F list (m - i) (head_bytes + F.line * i)) i x

-- where one line is answered, the others go on from there
by-line :
    (f i : ℕ) (e : ℕ) (rest : Answer ℕ) →
    ((m q : ℕ) → refused m q ≡ refuse_at f i (answered e) → refused m q ≡ refuse_at f i rest) ×
    ((d : ℕ) → answered d ≡ refuse_at f i (answered e) → (refuse_at f i rest ≡ rest) × (d ≡ e))
unfolding refuse_at
by-line zero i e rest = (λ m q h. let z : ◌≡◌ {A = ℕ} 0 1 = cc in absurd (omega arith), λ d h. (refl, cc))
by-line (suc f) i e rest = (λ m q h. h, λ d h. let z : ◌≡◌ {A = ℕ} 0 1 = cc in absurd (omega arith))

module _ (F : Limits) (T : Task) (list : List ℕ) (m i x : ℕ) where
  abbrev pub here : model.Line
  here = line_at F list (head_bytes + F.line * i)

  abbrev after-here : Answer ℕ
  after-here = rest_of_lines T (lines_from F list (m - suc i) (head_bytes + F.line * i + F.line)) (suc i) (x + 2 ^ (T.width - here.k))

  abbrev here-fault : ℕ
  here-fault = fault T.width (look_at T) T.facts here x

  lines_more : (k p : ℕ) → 0 < k → lines_from F list k p ≡ line_at F list p ∷ lines_from F list (k - 1) (p + F.line)
  unfolding lines_from
  lines_more zero p h = absurd (omega arith)
  lines_more (suc k) p h = let e : suc k - 1 ≡ k = omega arith in rw e

  one-more : i < m → from-line F T list m i x ≡ refuse_at here-fault i after-here
  unfolding cover_end
  one-more h =
      let e : m - i - 1 ≡ m - suc i = omega arith in
      rw (lines_more (m - i) (head_bytes + F.line * i) (omega arith), e)

  pub line-refused : i < m → (n q : ℕ) → refused n q ≡ line_answer T here i x → refused n q ≡ from-line F T list m i x
  line-refused h n q e = (by-line here-fault i _ after-here).0 n q e ∙ sym (one-more h)

  pub line-passed : i < m → (d : ℕ) → answered d ≡ line_answer T here i x → from-line F T list m i x ≡ from-line F T list m (i + 1) d
  line-passed h d e =
      let (g, k) = (by-line here-fault i _ after-here).1 d e in
      one-more h ∙
      g ∙
      (let s : m - suc i ≡ m - (i + 1) = omega arith in
      let p : head_bytes + F.line * i + F.line ≡ head_bytes + F.line * (i + 1) = omega (arith, mul-add F.line i 1) in
      rw (s, p, ← k, add-one))

  pub no-line : m ≤ i → from-line F T list m i x ≡ answered x
  unfolding lines_from cover_end
  no-line h = let e : m - i ≡ 0 = omega arith in rw (e, lines_from, cover_end)

-- a reader that is not past the first m lines stands at one
pub stands :
    (r : ListReader) (F : Limits) (list : List ℕ) (m : ℕ) → r.list.now ≡ list → r.limits ≡ F → head_bytes + F.line * m ≤ length list → r.line < m → LineStands r
stands r F list m list-is F-is inside h =
    let up : r.line + 1 ≤ m = omega arith in
    rw (F-is, list-is) (omega (arith, inside, mul-le-mul_left F.line up, mul-add F.line r.line 1))

-- and at this line
pub here-line :
    (t u : values.Task) (r : ListReader) (F : Limits) (list : List ℕ) (i x : ℕ) → t ≡ u → r.list.now ≡ list → r.line ≡ i → r.limits ≡ F →
    line_answer (task t) (line_here r) r.line x ≡ line_answer (task u) (here F (task u) list 0 i x) i x
here-line t u r F list i x t-is list-is i-is F-is =
    λ j. line_answer (task (t-is j)) (line_at (F-is j) (list-is j) (head_bytes + (F-is j).line * (i-is j))) (i-is j) x

pub all-lines : (F : Limits) (T : Task) (list : List ℕ) (m : ℕ) → end_of_lines T (lines_from F list m head_bytes) ≡ from-line F T list m 0 0
all-lines F T list m = ap₂ (λ (k p : ℕ). rest_of_lines T (lines_from F list k p) 0 0) (omega arith) (omega (arith, mul-zero F.line))

-- ---- the block

-- the first m of all lines
lines-first : (F : Limits) (list : List ℕ) (m all p : ℕ) → m ≤ all → lines_from F list m p ≡ take m (lines_from F list all p)
unfolding lines_from
lines-first F list zero all p h = refl
lines-first F list (suc m) zero p h = absurd (omega arith)
lines-first F list (suc m) (suc all) p h = ap (λ (ls : List model.Line). line_at F list p ∷ ls) (lines-first F list m all (p + F.line) (omega arith))

-- the first m lines, or all n where there are fewer
least-lines : (F : Limits) → Sensible F → (list : List ℕ) (m n p : ℕ) → lines_from F list (min m n) p ≡ take m (lines_from F list n p)
least-lines F S list m n p =
    let count : length (lines_from F list n p) ≡ n = length-lines_from F S list n p in
    let e : take (min m n) (lines_from F list n p) ≡ take m (lines_from F list n p) = rw count at (take_min m (lines_from F list n p)) in
    lines-first F list (min m n) n p (omega arith) ∙ e

tested-list :
    (b : Bool) (n q : ℕ) (ls : List model.Line) →
    answer_of (and_then (require b 64 n q) (λ u. done ls)) ≡ cond b (answered ls) (refused 64 n)
unfolding require and_then answer_of done
tested-list true n q ls = refl
tested-list false n q ls = refl

module _ (F : Limits) (list : List ℕ) where
  abbrev headed : Read (Unit {0})
  headed = header list 60 (head_bytes + F.line * F.lines) (of_the_problem F list) 0

  pub header-five : (q : ℕ) → got tt q ≡ headed → head_bytes ≤ length list
  header-five q e = (header-got list 60 _ (of_the_problem F list) q tt (sym e)).0

  pub list-refused : (n q : ℕ) → reject n q ≡ headed → refused n q ≡ list_of F list
  unfolding list_of case_list ◌>>◌ and_then answer_of
  list-refused n q e = rw (← e)

  list-body :
      (q : ℕ) → got tt q ≡ headed →
      list_of F list ≡ cond (eqb ((length list - head_bytes) % F.line) 0) (answered (lines_from F list (lines_in F list) head_bytes)) (refused 64 (length list))
  unfolding list_of case_list ◌>>◌ and_then
  list-body q e = rw (← e) (tested-list _ (length list) q _)

  module _ (q : ℕ) (e : got tt q ≡ headed) where
    pub partial-line : ((length list - head_bytes) % F.line ≡ 0 → ⊥) → refused 64 (length list) ≡ list_of F list
    partial-line h = sym (list-body q e ∙ rw (ne_eqb ((length list - head_bytes) % F.line) 0 h))

    pub whole-lines : (length list - head_bytes) % F.line ≡ 0 → answered (lines_from F list (lines_in F list) head_bytes) ≡ list_of F list
    whole-lines h = sym (list-body q e ∙ rw (eq-eqb ((length list - head_bytes) % F.line) 0 h))

-- ---- what was read

module _ (F : Limits) (R : Answer Task) (list : List ℕ) where
  pub cover-refused : (m : ℕ) (y : Refusal) → R ≡ refusal y → refusal y ≡ cover_read F R list m
  unfolding cover_read Answer.◌>>=◌
  cover-refused m y h = rw h

  pub follow-refused : (y : Refusal) → R ≡ refusal y → refusal y ≡ follow_read F R list
  unfolding follow_read Answer.◌>>=◌
  follow-refused y h = rw h

  -- by the numbers that were found
  module _ (T : Task) (read : R ≡ answered T) (G : Limits) (limits : G ≡ F) where
    pub cover-found : (m : ℕ) (u : Answer ℕ) → u ≡ cover_read G (answered T) list m → u ≡ cover_read F R list m
    cover-found m u h = rw (read, ← limits) h

    pub follow-found : (u : Answer ℕ) → u ≡ follow_read G (answered T) list → u ≡ follow_read F R list
    follow-found u h = rw (read, ← limits) h

-- ---- a list of a task

module _ (F : Limits) (S : Sensible F) (T : Task) (list : List ℕ) where
  pub cover-unread : (m : ℕ) (y : Refusal) → refusal y ≡ list_of F list → refusal y ≡ cover_read F (answered T) list m
  unfolding Answer.◌>>=◌
  cover-unread m y e = sym (cover-is F T list m ∙ rw (← e))

  pub cover-lines :
      (m n : ℕ) → answered (lines_from F list n head_bytes) ≡ list_of F list → (k : ℕ) → k ≡ min m n → (u : Answer ℕ) →
      u ≡ end_of_lines T (lines_from F list k head_bytes) → u ≡ cover_read F (answered T) list m
  unfolding Answer.◌>>=◌
  cover-lines m n e k k-is u h =
      let these : lines_from F list k head_bytes ≡ take m (lines_from F list n head_bytes) = rw k-is (least-lines F S list m n head_bytes) in
      h ∙ ap (λ (ls : List model.Line). end_of_lines T ls) these ∙ sym (cover-is F T list m ∙ rw (← e))

  pub follow-unread : (y : Refusal) → refusal y ≡ list_of F list → refusal y ≡ follow_read F (answered T) list
  unfolding Answer.◌>>=◌
  follow-unread y e = sym (follow-is F T list ∙ rw (← e))

  module _ (width : T.width ≡ F.width) (n : ℕ) (e : answered (lines_from F list n head_bytes) ≡ list_of F list) where
    -- the running value after every line tells all
    tested : (x : Answer ℕ) → x ≡ end_of_lines T (lines_from F list n head_bytes) → follow_read F (answered T) list ≡ Answer.◌>>=◌ x (λ d. ends (eqb d (2 ^ F.width)) n)
    unfolding Answer.◌>>=◌
    tested x x-is =
        let count : length (lines_from F list n head_bytes) ≡ n = length-lines_from F S list n head_bytes in
        let all : follow T.width (look_at T) T.facts (lines_from F list n head_bytes) 0 0 ≡ Answer.◌>>=◌ x (λ d. ends (eqb d (2 ^ F.width)) n) =
        same_answers T.width (look_at T) T.facts (lines_from F list n head_bytes) ∙ rw (← x-is, count, width)
        in
        follow-is F T list ∙ rw (← e) all

    pub follow-fault : (y : Refusal) → refusal y ≡ end_of_lines T (lines_from F list n head_bytes) → refusal y ≡ follow_read F (answered T) list
    unfolding Answer.◌>>=◌
    follow-fault y h = sym (tested (refusal y) h)

    module _ (d : ℕ) (h : answered d ≡ end_of_lines T (lines_from F list n head_bytes)) where
      pub follow-short : (d ≡ 2 ^ F.width → ⊥) → refused 70 n ≡ follow_read F (answered T) list
      unfolding Answer.◌>>=◌ ends
      follow-short k = sym (tested (answered d) h ∙ rw (ne_eqb d (2 ^ F.width) k))

      pub follow-passes : d ≡ 2 ^ F.width → answered n ≡ follow_read F (answered T) list
      unfolding Answer.◌>>=◌ ends
      follow-passes k = sym (tested (answered d) h ∙ rw (eq-eqb d (2 ^ F.width) k))
