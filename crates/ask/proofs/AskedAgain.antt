-- What is replied stays under a larger grant: what was asked answers the same, and a reply follows from it. Assumes nothing.
use Rattle.std.proofs.Common.{◌≡◌, ◌≢◌, refl, sym, ap, ◌∙◌, subst, Bool, List, ℕ, ◌≤◌, Option, None, Some, Result, Ok, Err}
use Rattle.model.specs.declared.Refusal.{Refusal}
use Rattle.model.specs.declared.Limits.{Limits}
use Rattle.model.specs.declared.Verdict.{Verdict}
use Rattle.model.specs.declared.Verdict.TheVariants as said
use Rattle.model.specs.declared.Search as Declared
use Rattle.model.specs.declared.Search.TheVariants as found
use Rattle.model.specs.declared.fault.Fault.{Fault}
use Rattle.model.specs.Limits.{limits_of}
use Rattle.model.specs.Answer as Answer
use Rattle.model.specs.Answer.{refused}
use Rattle.model.specs.Answers.{plain_answer, judge_answer, search_answer}
use Rattle.model.specs.Faults.{fault_number}
use Rattle.model.specs.Case.{Task}
use Rattle.model.specs.Operations.{read_both}
use Rattle.model.specs.Calls.{JudgeCall}
use Rattle.model.specs.ProblemBytes.{Problem}
use Rattle.model.proofs.Guarantees.{limits-sensible, read-sound}
use Rattle.judge.specs.Survival.{Decided, Settled, LargerGrant}
use Rattle.judge.proofs.Survival.{larger-grant, searched-again}
use Rattle.names.specs.Names.{Names}
use Rattle.answers.specs.Rows.{fault_row}
use Rattle.answers.specs.Status.{status_of}
use Rattle.answers.specs.declared.status.Status.TheVariants.{Undecided}
use Rattle.answers.specs.declared.answer.Answer.{Answer as Said}
use Rattle.answers.specs.declared.answer.Answer.TheVariants.{Judged, Written, Searched}
use Rattle.reply.specs.Spoken.{Spoken, names_for}
use Rattle.reply.specs.Replies.{Replied, answered_reply, with_file}
use Rattle.reply.specs.About.{WithPlan, with_steps, InNames, AboutRead, About}
use Rattle.ask.specs.Explained.{explained_reply}
use Rattle.ask.specs.Asked.{as_answer}
use Rattle.ask.specs.Commands.{Answers, Writes, Finds, Explains, Explained, written_file, searched_file, failing_state, list_buffer}
use Rattle.ask.specs.AskedAgain.{IsDecided, AskedAgain}
use Rattle.ask.specs.declared.question.Blocks.{Blocks}
use Rattle.ask.specs.declared.question.Question.TheVariants.{Judge}
use Rattle.ask.proofs.Known.{fault_of, fault-back, same-plain, same-judged, same-searched}

-- ---- answers that are decided

judge-decided : (v : Result Verdict Refusal) → status_of (as_answer Judged v) ≢ Undecided → Decided (judge_answer v)
judge-decided (Err r) d = tt
judge-decided (Ok (said.Right ls a)) d = tt
judge-decided (Ok (said.Wrong s o a)) d = tt
judge-decided (Ok (said.Undecided a)) d = d refl

search-decided : (e : Result Declared.Search Refusal) → status_of (as_answer Searched e) ≢ Undecided → Settled (search_answer e)
search-decided (Err r) d = tt
search-decided (Ok (found.Found p a)) d = tt
search-decided (Ok (found.NoneRight a)) d = tt
search-decided (Ok (found.Undecided p a)) d = d refl

write-decided : (n : Result ℕ Refusal) (grant : ℕ) → status_of (as_answer Written n) ≢ Undecided → plain_answer n ≢ refused 50 grant
unfolding fault_row
write-decided (Ok n) grant d e = absurd (cc)
write-decided (Err r) grant d e =
    let number : fault_number r.fault ≡ 50 = cc in
    let fault = sym (fault-back r.fault) ∙ ap fault_of number in
    d (ap (λ (f : Fault). (fault_row f).status) fault)

-- ---- replies

module _ (json : Bool) where
  answered-status : (s : Spoken) (r : Result Said Refusal) → (answered_reply json s r).status ≡ status_of r
  answered-status s (Ok a) = refl
  answered-status s (Err r) = refl

  -- what is replied to an answer is decided only if the answer is
  reply-decided : (s : Spoken) (r r' : Result Said Refusal) (f : Option (List ℕ)) (x : Replied) → r ≡ r' → x ≡ Ok (with_file f (answered_reply json s r)) → IsDecided x → status_of r' ≢ Undecided
  reply-decided s r r' f x e is d z = subst IsDecided is d (answered-status s r ∙ ap status_of e ∙ z)

  answer-decided : (s : Spoken) (r r' : Result Said Refusal) (x : Replied) → r ≡ r' → x ≡ Ok (answered_reply json s r) → IsDecided x → status_of r' ≢ Undecided
  answer-decided s r r' x e is d z = subst IsDecided is d (answered-status s r ∙ ap status_of e ∙ z)

  -- a plan is read as one thing
  plan-same : (s : Spoken) (plan : List ℕ) (n : ℕ) (x y : Replied) → WithPlan json s plan (explained_reply json s n) x → WithPlan json s plan (explained_reply json s n) y → y ≡ x
  unfolding WithPlan
  plan-same s plan n x y (steps, read, is) (steps', read', is') =
      let same = same-plain steps' steps (read' ∙ sym read) in
      is' ∙ ap (λ (z : Result (List ℕ) Refusal). Ok (with_steps json z (explained_reply json s n))) same ∙ sym is

  explains-same : (s : Spoken) (plan : List ℕ) (r : Result Said Refusal) (o : Option ℕ) (x y : Replied) → Explains json s plan r o x → Explains json s plan r o y → y ≡ x
  explains-same s plan r None x y k k' = k' ∙ sym k
  explains-same s plan r (Some n) x y k k' = plan-same s plan n x y k k'

  explain-decided :
      (s : Spoken) (plan : List ℕ) (v : Result Verdict Refusal) (x : Replied) → Explains json s plan (as_answer Judged v) (failing_state (as_answer Judged v)) x → IsDecided x → Decided (judge_answer v)
  explain-decided s plan (Err r) x k d = tt
  explain-decided s plan (Ok (said.Right ls a)) x k d = tt
  explain-decided s plan (Ok (said.Wrong n o a)) x k d = tt
  explain-decided s plan (Ok (said.Undecided a)) x k d = subst IsDecided k d refl

  -- a problem is read as one thing, and spoken of in the same names
  module _ (given : Option Names) (block : List ℕ) (K L : Spoken → Replied → Type 0) (x y : Replied) (stays : (s : Spoken) → K s x → L s y → y ≡ x) where
    names-stay : (F : Limits) (p : Problem) (N : Option Names) → InNames json given F p N K x → InNames json given F p N L y → y ≡ x
    names-stay F p None k l = l ∙ sym k
    names-stay F p (Some N) k l = stays _ k l

    read-stays : (F : Limits) (p : Result Problem Refusal) → AboutRead json given F p K x → AboutRead json given F p L y → y ≡ x
    read-stays F (Err r) k l = l ∙ sym k
    read-stays F (Ok p) k l = names-stay F p (names_for given p) k l

    about-stays : About json given block K x → About json given block L y → y ≡ x
    unfolding About
    about-stays (p, read, k) (q, read', l) =
        let P : Result Problem Refusal → Type 0 = λ z. AboutRead json given (limits_of block) z L y in
        read-stays (limits_of block) p k (subst P (same-plain q p (read' ∙ sym read)) l)

  -- ---- the commands

  module _ (b : Blocks) (g g' : ℕ) (g≤g' : g ≤ g') where
    abbrev R : Answer.Answer Task
    R = read_both b.problem.now b.plan.now

    again : LargerGrant (limits_of b.problem.now) R g g'
    again = larger-grant (limits_of b.problem.now) (limits-sensible b.problem.now) R (read-sound b.problem.now b.plan.now) g g' g≤g'

    verdict-stays : (v v' : Result Verdict Refusal) → JudgeCall R g v → JudgeCall R g' v' → Decided (judge_answer v) → v' ≡ v
    verdict-stays v v' c c' d = same-judged v' v (again.judged v v' c c' d)

    judge-stays : (s : Spoken) (x y : Replied) → Answers json (Judge b g) s x → Answers json (Judge b g') s y → IsDecided x → y ≡ x
    judge-stays s x y (r, (v, c, e, _), is) (r', (v', c', e', _), is') d =
        let same = verdict-stays v v' c c' (judge-decided v (answer-decided s r _ x e is d)) in
        is' ∙ ap (λ (z : Result Said Refusal). Ok (answered_reply json s z)) (e' ∙ ap (as_answer Judged) same ∙ sym e) ∙ sym is

    write-stays : (s : Spoken) (x y : Replied) → Writes json b g s x → Writes json b g' s y → IsDecided x → y ≡ x
    write-stays s x y (r, after, (n, c, e), is) (r', after', (n', c', e'), is') d =
        let (answer, buffer) = again.written list_buffer n n' after after' c c' (write-decided n g (reply-decided s r _ _ x e is d)) in
        let same : r' ≡ r = e' ∙ ap (as_answer Written) (same-plain n' n answer) ∙ sym e in
        is' ∙
        ap (λ (z : Result Said Refusal). Ok (with_file (written_file z after') (answered_reply json s z))) same ∙
        ap (λ (z : List ℕ). Ok (with_file (written_file r z) (answered_reply json s r))) buffer ∙
        sym is

    explain-stays : (s : Spoken) (x y : Replied) → Explained json b g s x → Explained json b g' s y → IsDecided x → y ≡ x
    explain-stays s x y (r, (v, c, e, _), k) (r', (v', c', e', _), k') d =
        let plan = b.plan.now in
        let P : Replied → Result Said Refusal → Type 0 = λ z q. Explains json s plan q (failing_state q) z in
        let decided = explain-decided s plan v x (subst (P x) e k) d in
        let same : r' ≡ r = e' ∙ ap (as_answer Judged) (verdict-stays v v' c c' decided) ∙ sym e in
        explains-same s plan r (failing_state r) x y k (subst (P y) same k')

    search-stays : (longest : ℕ) (s : Spoken) (x y : Replied) → Finds json b.problem longest g s x → Finds json b.problem longest g' s y → IsDecided x → y ≡ x
    search-stays longest s x y (r, (f, c, e, _), is) (r', (f', c', e', _), is') d =
        let settled = search-decided f (reply-decided s r _ _ x e is d) in
        let same = same-searched f' f (searched-again b.problem.now g g' g≤g' longest f f' c c' settled) in
        is' ∙
        ap (λ (z : Result Said Refusal). Ok (with_file (searched_file z) (answered_reply json s z))) (e' ∙ ap (as_answer Searched) same ∙ sym e) ∙
        sym is

    pub asked-again : (given : Option Names) → AskedAgain json given b g g'
    asked-again given =
        let about = about-stays given b.problem.now in
        record {
          judge = λ x y k k' d. about _ _ x y (λ s a a'. judge-stays s x y a a' d) k k';
          write = λ x y k k' d. about _ _ x y (λ s a a'. write-stays s x y a a' d) k k';
          explain = λ x y k k' d. about _ _ x y (λ s a a'. explain-stays s x y a a' d) k k';
          search = λ longest x y k k' d. about _ _ x y (λ s a a'. search-stays longest s x y a a' d) k k';
        }
