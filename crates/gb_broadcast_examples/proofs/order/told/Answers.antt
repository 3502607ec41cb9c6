use Rattle.gb_broadcast_examples.proofs.order.told.Goals as goal

pub effects-requires : goal.effects-requires
effects-requires g c ms = c.new-fifo.ensures.known ms (c.new-2.ensures.known ms 0 0 tt)
