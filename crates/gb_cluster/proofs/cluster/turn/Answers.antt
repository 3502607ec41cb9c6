use Rattle.gb_cluster.proofs.CodeLemmas.{sends_somewhere}
use Rattle.gb_cluster.proofs.cluster.turn.Goals as goal

pub post-requires-clause-sends : goal.post-requires-clause-sends
post-requires-clause-sends c = sends_somewhere c.args.node.now c.args.event.now c.in-Sent.sent c.take.new.self c.in-Sent.ensures.turn
