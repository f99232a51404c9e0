use Rattle.std.proofs.Common.{refl, sym, ◌∙◌}
use Rattle.make.proofs.Parsing.{wrong_at, passed, returned}
use Rattle.make.proofs.NameSteps.{limits_named-facts, version-bad, version-none, version-some}
use Rattle.make.proofs.problems.version.Goals as goal

pub returns-in_err-expect_key : goal.returns-in_err-expect_key
returns-in_err-expect_key c =
    rw (returned c.from_residual.result c.from_residual.ensures.1) (passed _ _ _ _ _ _ _ (version-bad _ _ c.as_slice.ensures) c.in_err-expect_key.ensures)

pub returns-in_default : goal.returns-in_default
returns-in_default c =
    let stands = c.in_ok-expect_key.ensures in
    wrong_at _ _ _ _ _ _ _ (version-none _ _ c.as_slice.ensures _ _ _ stands.read c.next_word-word.ensures.bytes (sym c.limits_named.ensures ∙ c.in_default.is)) c.at.ensures c.next_word-word.ensures.left

pub returns : goal.returns
returns c =
    let stands = c.in_ok-expect_key.ensures in
    let named = sym c.limits_named.ensures ∙ c.in-Some.is in
    record {
      value = c.in-Some.limits;
      read = version-some _ _ c.as_slice.ensures _ _ _ stands.read c.next_word-word.ensures.bytes _ _ c.next_word-word.ensures.after named;
      is = record { same = refl; facts = limits_named-facts _ _ named };
    }
