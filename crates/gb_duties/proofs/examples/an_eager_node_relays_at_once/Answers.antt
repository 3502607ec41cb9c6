use Rattle.gb_duties.proofs.ExampleLemmas.{eager_delivered, eager_relayed, eager_relayed_back}
use Rattle.gb_duties.proofs.examples.an_eager_node_relays_at_once.Goals as goal

pub returns-clause-delivered : goal.returns-clause-delivered
returns-clause-delivered c = eager_delivered

pub returns-clause-relayed : goal.returns-clause-relayed
returns-clause-relayed c = eager_relayed

pub returns-clause-relayed_back : goal.returns-clause-relayed_back
returns-clause-relayed_back c = eager_relayed_back
