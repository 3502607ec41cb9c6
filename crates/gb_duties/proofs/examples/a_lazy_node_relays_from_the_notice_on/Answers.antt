use Rattle.gb_duties.proofs.ExampleLemmas.{lazy_own, lazy_delivered, lazy_before, lazy_noticed}
use Rattle.gb_duties.proofs.examples.a_lazy_node_relays_from_the_notice_on.Goals as goal

pub returns-clause-own : goal.returns-clause-own
returns-clause-own c = lazy_own

pub returns-clause-delivered : goal.returns-clause-delivered
returns-clause-delivered c = lazy_delivered

pub returns-clause-before : goal.returns-clause-before
returns-clause-before c = lazy_before

pub returns-clause-noticed : goal.returns-clause-noticed
returns-clause-noticed c = lazy_noticed
