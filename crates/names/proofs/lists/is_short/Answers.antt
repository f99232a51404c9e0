use Rattle.std.proofs.Common.{refl}
use Rattle.names.proofs.lists.is_short.Goals as goal

pub returns : goal.returns
returns c = refl
