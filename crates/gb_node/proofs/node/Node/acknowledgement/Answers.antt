use Rattle.gb_types.specs.Common.{OnOk, subst, [], ap}
use Rattle.gb_frame.specs.Common.{IsPacket}
use Rattle.gb_node.specs.NodeValue.{NodeValue}
use Rattle.gb_node.proofs.NodeLemmas.{written_if}
use Rattle.gb_node.proofs.node.Node.acknowledgement.Goals as goal

pub returns-clause-text : goal.returns-clause-text
returns-clause-text c = written_if c.args.self.now c.args.to 0 [] _ _ _ c.bare_packet.ensures.text (ap (λ (v : NodeValue). v.key) c.self.view_is) (c.head-head.ensures.content [])

pub returns-clause-packet : goal.returns-clause-packet
returns-clause-packet c = subst (λ x. OnOk c.bare_packet.result (IsPacket x)) (c.head-head.ensures.content []) c.bare_packet.ensures.packet
