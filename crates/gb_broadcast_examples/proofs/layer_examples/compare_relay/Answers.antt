use Rattle.gb_broadcast_examples.proofs.layer_examples.compare_relay.Goals as goal

pub compare-requires : goal.compare-requires
compare-requires g c ms = c.new-layer.ensures.known ms tt
