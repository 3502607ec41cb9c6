use Rattle.gb_types.proofs.PlaceLemmas.{in_range}
use Rattle.gb_types.proofs.node.NodeSet.nodes.Goals as goal

pub returns-clause-whole : goal.returns-clause-whole
returns-clause-whole c = λ q h. in_range c.self.inside.bits q (rw (← c.self.view_is) at h)
