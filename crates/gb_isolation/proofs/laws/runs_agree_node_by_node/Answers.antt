use Rattle.gb_isolation.proofs.TwoRunLemmas.{alike_by_node}
use Rattle.gb_isolation.proofs.laws.runs_agree_node_by_node.Goals as goal

pub returns : goal.returns
returns c = alike_by_node c.every_group_is_isolated.ensures c.each_node_decides.ensures
