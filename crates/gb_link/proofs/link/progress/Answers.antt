use Rattle.gb_link.proofs.ProgressLemmas.{rounds_move_on}
use Rattle.gb_link.proofs.link.progress.Goals as goal

pub returns : goal.returns
returns g c = rounds_move_on _
