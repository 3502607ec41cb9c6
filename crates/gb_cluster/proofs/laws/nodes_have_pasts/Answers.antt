use Rattle.gb_cluster.proofs.NodesLemmas.{have_pasts}
use Rattle.gb_cluster.proofs.laws.nodes_have_pasts.Goals as goal

pub returns : goal.returns
returns c = have_pasts
