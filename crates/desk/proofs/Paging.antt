-- The page of a problem and a plan is the definition's text. Assumes nothing.
use Rattle.std.proofs.Common.{◌≡◌, refl, sym, ap, ap₂, ◌∙◌, subst, Bool, true, false, List, [], ◌++◌, ℕ, ◌+◌, ◌*◌, ◌≤◌, mul-le-mul_left, arith, leb, length, take, drop, length-take-le, leb-true, Ok, Err}
use lib.Seq.{sets, sets-eq}
use Rattle.model.specs.{declared.Limits.Limits, declared.Refusal.Refusal, Limits.limits_of, Answer.answered, Answers.refusal, Answers.verdict, Answers.judge_answer}
use Rattle.model.specs.{Read.head_bytes, Walk.Line, Walk.walked, Walk.Verdict, Walk.right, Walk.wrong, Walk.undecided, Walk.judged}
use Rattle.model.specs.{Operations.read_task, Operations.line_count, ListBytes.lines_from, ListBytes.lines_bytes, WellFormed.LineOk, WellFormed.Each, WellFormed.Sensible}
use Rattle.model.specs.DeskText.{judged_line, lines_text, list_text, verdict_rest, desk_grant, answer_line, answer_rest, first_line, later_lines, desk_text}
use Rattle.model.specs.declared.Verdict as declared
use Rattle.model.specs.Case as model
use Rattle.model.proofs.{Laws.Spans.Span, Laws.Reading.split, Laws.Reading.span-length, Laws.Reading.is_whole}
use Rattle.model.proofs.{Laws.Verdicts.Means, Laws.Verdicts.judged-means, Laws.Verdicts.walk-passes, Laws.Lists.follows-ok}
use Rattle.model.proofs.Laws.ListCodec as codec
use Rattle.blocks.specs.{declared.problem.Problem.Problem, declared.task.Task.Task, Values.task}
use Rattle.blocks.proofs.Tasks.{task-width, task-facts}
use Rattle.lines.specs.Putting.{LinesLaid}
use Rattle.walk.specs.{declared.page.Page.Page, Pages.PutsLines}
use Rattle.judge.specs.Verdicts.{HasLines, JudgesTask}
use Rattle.page.specs.Pages.{following, page_of}

-- ---- the lines of a list, read back

module _ (F : Limits) (S : Sensible F) where
  -- lines that were put where a list block has them
  lines-read :
      (before : List ℕ) (ls : List Line) → head_bytes + F.line * length ls ≤ length before → Each (LineOk F) ls →
      lines_from F (sets before head_bytes (lines_bytes F ls)) (length ls) head_bytes ≡ ls
  lines-read before ls room ok =
      let bytes = lines_bytes F ls in
      let fit : head_bytes + length bytes ≤ length before = omega (arith, codec.length-lines F S [] ls) in
      let l = take head_bytes before ++ bytes ++ drop (head_bytes + length bytes) before in
      ap (λ (x : List ℕ). lines_from F x (length ls) head_bytes) (sets-eq bytes before head_bytes fit) ∙
      (split (take head_bytes before ++ bytes) (is_whole {s = l}) λ q a b.
      split (take head_bytes before) a λ p x y.
      let i : p ≡ head_bytes = omega (arith, span-length x, length-take-le head_bytes before (omega arith)) in
      codec.lines_ok F S l ls head_bytes q ok (subst (λ (j : ℕ). Span l (length l) j bytes q) i y))

  -- a right verdict's lines are sound to write
  lines_fit : (T : model.Task) → T.facts ≤ F.facts → T.width ≡ F.width → (g : ℕ) (ls : List Line) (a : ℕ) → judged T g ≡ right ls a → Each (LineOk F) ls
  lines_fit T h w g ls a e =
      let n≤w : T.facts ≤ T.width = omega (arith, S.width) in
      let m = subst (Means T n≤w g (walked T)) e (judged-means T n≤w g) in
      (follows-ok F S T.width _ T.facts (omega (arith, S.facts)) w ls 0 (walk-passes T n≤w ls a m.0)).1

  -- ---- what follows the first line

  module _ (n : ℕ) (before after : List ℕ) (room : head_bytes + F.line * F.lines ≤ length before) where
    list-is :
        (ls : List Line) (b : Bool) → leb (length ls) F.lines ≡ b → Each (LineOk F) ls → (next : ℕ) → LinesLaid F before head_bytes ls next after → (a : ℕ) →
        following F n after (answered (right (length ls) a)) ≡ list_text F n ls
    unfolding list_text
    list-is ls true e ok next laid a =
        let h : head_bytes + F.line * length ls ≤ length before = omega (arith, mul-le-mul_left F.line (leb-true (length ls) F.lines e)) in
        rw e
        (ap (λ (l : List ℕ). lines_text F n (lines_from F l (length ls) head_bytes)) ((laid h).bytes) ∙
        ap (lines_text F n) (lines-read before ls h ok))
    list-is ls false e ok next laid a = rw e

    following-is :
        (v : Verdict (List Line)) → ((ls : List Line) (a : ℕ) → v ≡ right ls a → Each (LineOk F) ls) →
        (closed : List Line) → HasLines closed v → (next : ℕ) → LinesLaid F before head_bytes closed next after →
        following F n after (answered (line_count v)) ≡ verdict_rest F n v
    unfolding verdict_rest
    following-is (right ls a) ok closed h next laid =
        list-is ls _ refl (ok ls a refl) next (subst (λ (x : List Line). LinesLaid F before head_bytes x next after) h laid) a
    following-is (wrong s o a) ok closed h next laid = refl
    following-is (undecided a) ok closed h next laid = refl

-- ---- the page

-- a refusal's, over however many facts
pub refused-text :
    (F : Limits) (n : ℕ) (s t list : List ℕ) (y : Refusal) → read_task (limits_of s) s t ≡ refusal y → page_of F n list (judge_answer (Err y)) ≡ desk_text (limits_of s) s t
unfolding desk_text first_line answer_line later_lines answer_rest
refused-text F n s t list y e = rw e

-- a verdict's
pub judged-text :
    (s t after : List ℕ) → head_bytes + (limits_of s).line * (limits_of s).lines ≤ length after →
    (lent : Task) (found : Problem) → lent.problem.now ≡ found → found.limits ≡ (limits_of s) → read_task (limits_of s) s t ≡ answered (task lent) →
    (a : declared.Verdict) (p q : Page) → JudgesTask (PutsLines lent.problem.now.limits) (task lent) desk_grant p a q → p.at ≡ head_bytes → after ≡ q.out.now →
    page_of found.limits found.facts after (judge_answer (Ok a)) ≡ desk_text (limits_of s) s t
unfolding desk_text first_line answer_line later_lines answer_rest
judged-text s t after fit lent found same-problem limits read a p q J at e =
    let T = task lent in
    let F = found.limits in
    let n = found.facts in
    let S = found.sensible in
    let same-limits : lent.problem.now.limits ≡ F = ap (λ (x : Problem). x.limits) same-problem in
    let f : n ≡ T.facts = ap (λ (x : Problem). x.facts) (sym same-problem) ∙ sym (task-facts lent) in
    let w : T.width ≡ F.width = task-width lent ∙ ap (λ (x : Limits). x.width) same-limits in
    let few : T.facts ≤ F.facts = omega (arith, f, found.few_facts) in
    let room : head_bytes + F.line * F.lines ≤ length after = rw limits fit in
    let laid : LinesLaid F p.out.now head_bytes J.closed q.at after = rw (e, ← at, ← same-limits) J.put.laid in
    let first : judged_line F n (answered (verdict a)) ≡ answer_line (limits_of s) (read_task (limits_of s) s t) =
    ap (λ v. judged_line F n (answered v)) J.answer ∙ rw (read, f, limits)
    in
    let rest : following F n after (answered (verdict a)) ≡ answer_rest (limits_of s) (read_task (limits_of s) s t) =
    ap (λ v. following F n after (answered v)) J.answer ∙
    following-is F S n p.out.now after (omega (arith, room, J.put.size, ap length e)) (judged T desk_grant) (lines_fit F S T few w desk_grant) J.closed J.lines q.at laid ∙
    rw (read, f, limits)
    in
    ap₂ (λ (x y : List ℕ). x ++ y) first rest
