use Rattle.gb_types.proofs.UnionLemmas.{of_bits-union}
use Rattle.gb_types.proofs.node.NodeSet.union.Goals as goal

pub returns : goal.returns
returns c = rw (← c.self.view_is, ← c.other.view_is) (of_bits-union c.self.inside.bits c.other.inside.bits)
