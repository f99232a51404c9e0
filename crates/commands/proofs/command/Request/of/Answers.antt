use Rattle.std.proofs.Common.{◌∙◌}
use Rattle.clap.specs.Matches.{found_of}
use Rattle.clap.specs.Walk.{rows_of}
use Rattle.commands.proofs.Rows.{one_reading, named-rows}
use Rattle.commands.proofs.command.Request.of.Goals as goal

pub returns-clause-some : goal.returns-clause-some
returns-clause-some c =
    let F = found_of c.in_ok-name.inner.now in
    record {
      name = c.in_ok-name.name.now;
      rows = rows_of F;
      found = named-rows _ _ _ _ _ c.in_ok-name.ensures.name c.in_ok-name.ensures.rows;
      command = c.in_ok-of.ensures.some;
      names = c.text.ensures;
      json =
          record {
            none = λ e. c.get_flag.ensures.none (one_reading F _ ∙ e);
            yes = λ e. c.get_flag.ensures.value (one_reading F _ ∙ e);
            no = λ e. c.get_flag.ensures.other (one_reading F _ ∙ e);
          };
    }
