use Rattle.gb_cluster.proofs.EndLemmas.{one_end}
use Rattle.gb_cluster.proofs.laws.runs_have_one_end.Goals as goal

pub returns : goal.returns
returns c = one_end
