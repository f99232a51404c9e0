-- The definitions give every row of the tables, by computation; and the two statements beside them, by the laws. Assumes nothing.
use Rattle.model.proofs.Words.{refl, ap, List, ◌++◌, ℕ, ◌≤◌, arith, Limits, version1, version2, Line, Verdict, walked, verdict_line, verdict_rest, line_count, reply, Sensible, P_no_start, P2_no_start, DeskGrant, TrialsHold}
use Rattle.model.proofs.Laws.Tasks.{task-sound}
use Rattle.model.proofs.Laws.Judging.{judged-in, judged-out}
use Rattle.model.proofs.Laws.Lists.{n≤w}
use Rattle.model.proofs.Laws.NoStart.{no_start}
use Rattle.model.proofs.Guarantees.{version1-sensible, version2-sensible}

desk-grant-holds : (F : Limits) → Sensible F → DeskGrant F
unfolding reply
desk-grant-holds F S problem plan T given =
    let l = n≤w F S T (task-sound F problem plan T given) in
    rw given ((λ h. ap whole (judged-out T l 1000000 h)), (λ h. ap whole (judged-in T l 1000000 (walked T) refl h)))
  where
    whole : Verdict (List Line) → List ℕ
    whole v = verdict_line F T.facts (line_count v) ++ verdict_rest F T.facts v

pub trials-hold : TrialsHold
unfolding reply
trials-hold =
    record {
      starred = refl;
      no_start = (no_start version1 (omega arith) P_no_start refl refl (omega arith), no_start version2 (omega arith) P2_no_start refl refl (omega arith));
      edges = refl;
      desk_grant = (desk-grant-holds version1 version1-sensible, desk-grant-holds version2 version2-sensible);
      members = refl;
      conflicts = refl;
      running_ends = refl;
      relevances = refl;
      sparse_relevances = refl;
      searches = refl;
      versions = refl;
      merges = refl;
    }
