use Rattle.gb_duties.proofs.ExampleLemmas.{beb_own, beb_delivered, beb_silent}
use Rattle.gb_duties.proofs.examples.a_best_effort_node_puts_out_its_own.Goals as goal

pub returns-clause-own : goal.returns-clause-own
returns-clause-own c = beb_own

pub returns-clause-delivered : goal.returns-clause-delivered
returns-clause-delivered c = beb_delivered

pub returns-clause-not_relayed : goal.returns-clause-not_relayed
returns-clause-not_relayed c = beb_silent
