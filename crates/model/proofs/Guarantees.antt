-- What is guaranteed holds of every version whose numbers are sensible, and so of version 1. Assumes nothing.
use Rattle.model.proofs.Words.{refl, Bool, true, false, cond, List, ℕ, length, get_or, eqb, arith, Limits, version1, version2, limits_of, block, problem, problem_of, plan, plan_of, encode_problem, encode_plan, encode_list, ReadOk, read_task, read_both, lines_read, write_read, Sensible, AllInput, Guarantees, Theorems}
use Rattle.model.specs.Answer as Answer
use Rattle.model.specs.Relevance.{every_row, fewer_rows}
use Rattle.model.proofs.Laws.Conflicts.{order-free-two, order-free-three}
use Rattle.model.proofs.Laws.Reading.{answer-got}
use Rattle.model.proofs.Laws.ProblemCodec.{problem-gives, problem-ok, plan-gives, plan-ok}
use Rattle.model.proofs.Laws.ListCodec.{list_sound, list-ok}
use Rattle.model.proofs.Laws.Tasks.{task-sound}
use Rattle.model.proofs.Laws.Tracing.{every-row-keeps, fewer-rows-keep, relevances, work-unchanged, run-first, answers-alike}
use Rattle.model.proofs.Laws.Verdicts.{kleene-sound}
use Rattle.model.proofs.Laws.Judging.{verdicts}
use Rattle.model.proofs.Laws.RunningEnd.{running-end}
use Rattle.model.proofs.Laws.Searching.{problem-first, searching}
use Rattle.model.proofs.Laws.Lists.{refused_unchanged, rest_unchanged, lists, n≤w}

module _ (F : Limits) (S : Sensible F) where
  reading : AllInput F
  unfolding problem_of plan_of write_read read_task Answer.◌>>=◌
  reading =
      record {
        problem_sound = λ s b p e. let (q, h) = answer-got (problem F s 0) e in (problem-gives F S s b).of p q h;
        plan_sound = λ s b m steps e. let (q, h) = answer-got (plan s m 0) e in let (k, z, _) = (plan-gives s m b).of steps q h in (k, z);
        list_sound = list_sound F S;
        problem_accepted = λ p k. problem-ok F S (encode_problem F p) p k refl;
        plan_accepted = λ m steps k. plan-ok (encode_plan steps) m steps k refl;
        list_accepted = λ ls k. list-ok F S (encode_list F ls) ls k refl;
        task_accepted =
            λ p steps k l.
            let plan = plan-ok (encode_plan steps) (length p.actions) steps l refl in
            rw (problem-ok F S (encode_problem F p) p k refl, Answer.◌>>=◌, plan);
        task_sound = task-sound F;
        refused_unchanged = λ R grant out n q e. refused_unchanged F out n q (lines_read F R grant (length out)) e;
        refused_work_unchanged = work-unchanged;
        run_refuses_first = run-first;
        problem_refuses_first = problem-first F;
        rest_unchanged = λ R grant out n e. rest_unchanged F out S R grant n e;
      }

  pub guarantees-hold : Guarantees F
  guarantees-hold =
      record {
        all_input = reading;
        verdicts = λ T ok. verdicts T (n≤w F S T ok);
        certificates = λ T ok. lists F S T ok;
        relevance = λ T ok. let l = n≤w F S T ok in relevances every_row T l (every-row-keeps T l);
        sparse_relevance = λ T ok. let l = n≤w F S T ok in relevances fewer_rows T l (fewer-rows-keep T l);
        same_facts = λ R s work few. answers-alike every_row fewer_rows s work few R;
        searching = searching F S;
      }

pub version1-sensible : Sensible version1
version1-sensible = grind arith

pub version2-sensible : Sensible version2
version2-sensible = grind arith

-- the version that a problem's block begins with
pub limits-sensible : (problem : List ℕ) → Sensible (limits_of problem)
limits-sensible problem = of-version (eqb (get_or problem 0 0) 2)
  where
    of-version : (b : Bool) → Sensible (cond b version2 version1)
    of-version true = version2-sensible
    of-version false = version1-sensible

pub guarantees-of : (problem : List ℕ) → Guarantees (limits_of problem)
guarantees-of problem = guarantees-hold (limits_of problem) (limits-sensible problem)

-- what is read of two blocks is a task of that version
pub read-sound : (problem plan : List ℕ) → ReadOk (limits_of problem) (read_both problem plan)
read-sound problem plan = task-sound (limits_of problem) problem plan

pub theorems-hold : Theorems
unfolding encode_problem block
theorems-hold =
    record {
      guarantees = guarantees-hold;
      version1_sensible = version1-sensible;
      version1_guarantees = guarantees-hold version1 version1-sensible;
      version2_sensible = version2-sensible;
      version2_guarantees = guarantees-hold version2 version2-sensible;
      guarantees_of = guarantees-of;
      begins_with_1 = λ p. refl;
      begins_with_2 = λ p. refl;
      kleene = kleene-sound;
      running_ends = running-end;
      free_in_states = order-free-two;
      free_in_cases = order-free-three;
    }
