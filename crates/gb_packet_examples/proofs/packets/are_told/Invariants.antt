use Rattle.gb_types.specs.Common.{take, All}
use Rattle.gb_frame.specs.Common.{HasGeneration}
use Rattle.gb_packet_examples.proofs.packets.are_told.Given as goal

abbrev pub invariant-loop-item : goal.invariant-loop-item
invariant-loop-item l = All (HasGeneration l.fn.version) (take l.item-index l.items)
