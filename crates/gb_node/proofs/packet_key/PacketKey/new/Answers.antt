-- Nothing is kept of packets that were not sent.
use Rattle.gb_types.specs.declared.limits.TheConstants.{NODES}
use Rattle.gb_node.proofs.KeptLemmas.{none_kept}
use Rattle.gb_node.proofs.packet_key.PacketKey.new.Goals as goal

pub invariant_of-result : goal.invariant_of-result
invariant_of-result c = λ i. none_kept c.new.result NODES i
