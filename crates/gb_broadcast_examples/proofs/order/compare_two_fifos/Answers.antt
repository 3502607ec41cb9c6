use Rattle.gb_broadcast_examples.proofs.order.compare_two_fifos.Goals as goal

pub tell-requires : goal.tell-requires
tell-requires g c ms = c.new-fifo.ensures.known ms (c.new-below.ensures.known ms (c.new-2.ensures.known ms 0 0 tt))
