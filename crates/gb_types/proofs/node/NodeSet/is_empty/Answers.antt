use Rattle.std.proofs.Common.{arith}
use Rattle.gb_types.proofs.EmptyLemmas.{is_empty}
use Rattle.gb_types.proofs.node.NodeSet.is_empty.Goals as goal

pub returns : goal.returns
returns c = rw (← c.self.view_is) (is_empty c.self.inside.bits (omega arith))
