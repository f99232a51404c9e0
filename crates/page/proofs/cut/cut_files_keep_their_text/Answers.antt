use Rattle.page.proofs.Cutting.{text-cut}
use Rattle.page.proofs.cut.cut_files_keep_their_text.Goals as goal

pub returns : goal.returns
returns c = text-cut
