use Rattle.gb_types.specs.Common.{subst, ap, ◌∙◌}
use Rattle.gb_frame.specs.Common.{IsPacket, packet_of, batch_in}
use Rattle.gb_types.specs.declared.version.Version.{Version}
use Rattle.gb_node.specs.NodeValue.{NodeValue}
use Rattle.gb_node.proofs.NodeLemmas.{written}
use Rattle.gb_node.proofs.node.Node.write_frame.Goals as goal

pub returns-clause-text : goal.returns-clause-text
returns-clause-text c =
    rw c.in-Some.ensures.0 (written c.args.self.now c.args.to c.args.number (batch_in c.args.self.now.table.version c.in-Some.texts.now) _ _ _ c.frame_packet.ensures.text (c.key.ensures ∙ ap (λ (v : NodeValue). v.key) c.self.view_is) (ap (λ (v : Version). packet_of c.head.result (batch_in v c.in-Some.texts.now)) c.head.ensures.version ∙ c.head.ensures.content (batch_in c.args.self.now.table.version c.in-Some.texts.now)))

pub returns-clause-packet : goal.returns-clause-packet
returns-clause-packet c = rw c.in-Some.ensures.0 (subst IsPacket (ap (λ (v : Version). packet_of c.head.result (batch_in v c.in-Some.texts.now)) c.head.ensures.version ∙ c.head.ensures.content (batch_in c.args.self.now.table.version c.in-Some.texts.now)) c.frame_packet.ensures.packet)
