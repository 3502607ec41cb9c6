use Rattle.gb_isolation.proofs.DecideLemmas.{each_decides}
use Rattle.gb_isolation.proofs.laws.each_node_decides.Goals as goal

pub returns : goal.returns
returns c = each_decides
