use Rattle.gb_types.specs.Common.{length, ap, ◌∙◌}
use Rattle.gb_node.proofs.KeptLemmas.{bare_len}
use Rattle.gb_node.proofs.packet_key.anew.Goals as goal

pub bare_of-requires : goal.bare_of-requires
bare_of-requires c = ap length c.in_ok-packet.ensures.text ∙ bare_len c.args.key.now c.args.head
