use Rattle.std.proofs.Common.{arith}
use Rattle.gb_types.proofs.RisingLemmas.{rising_from-end}
use Rattle.gb_types.proofs.NextLemmas.{none_left, first_is_node, first_left}
use Rattle.gb_types.proofs.node.NodeSet.next_from.Goals as goal

pub returns-then-number-ge-NODES : goal.returns-then-number-ge-NODES
returns-then-number-ge-NODES c = rising_from-end c.args.self.now c.args.number c.if-number-ge-NODES.true

pub returns-then-left-eq0 : goal.returns-then-left-eq0
returns-then-left-eq0 c = rw (← c.self.view_is) (none_left c.self.inside.bits c.args.number (omega arith) c.if-left-eq0.true c.if-number-ge-NODES.false)

pub new-requires : goal.new-requires
new-requires c = first_is_node c.self.inside.bits c.args.number (omega arith) (omega (arith, c.if-left-eq0.false))

pub returns : goal.returns
returns c = rw (c.new.ensures, ← c.self.view_is) (first_left c.self.inside.bits c.args.number (omega arith) (omega (arith, c.if-left-eq0.false)))
