use Rattle.gb_merge.proofs.FedLemmas.{leaves_node}
use Rattle.gb_merge.proofs.fed.refusals_leave_nodes.Goals as goal

pub returns : goal.returns
returns c = leaves_node
