use Rattle.gb_node.proofs.ReadLemmas.{within}
use Rattle.gb_node.proofs.node.Node.take.Goals as goal

pub returns-clause-room : goal.returns-clause-room
returns-clause-room c = within c.args.self.now c.happen.new.self c.args.event.now c.happen.result c.happen.ensures.turn c.happen.ensures.spelt
