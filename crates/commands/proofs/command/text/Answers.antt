use Rattle.std.proofs.Common.{◌∙◌}
use Rattle.clap.specs.Matches.{found_of}
use Rattle.commands.proofs.Rows.{value_text}
use Rattle.commands.proofs.command.text.Goals as goal

pub returns : goal.returns
returns c = c.get_str.ensures ∙ value_text (found_of c.args.matches.now) c.args.word.now
