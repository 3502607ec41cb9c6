use Rattle.gb_broadcast_examples.proofs.fifo_examples.compare_relay.Goals as goal

pub compare-requires : goal.compare-requires
compare-requires g c ms = c.new-layer.ensures.known ms (c.new-2.ensures.known ms tt)
