use Rattle.gb_duties.proofs.ExampleLemmas.{dropped_gone, dropped_delivered, dropped_unnoticed, dropped_had}
use Rattle.gb_duties.proofs.examples.a_member_that_dropped_the_group_had_the_message.Goals as goal

pub returns-clause-gone : goal.returns-clause-gone
returns-clause-gone c = dropped_gone

pub returns-clause-delivered : goal.returns-clause-delivered
returns-clause-delivered c = dropped_delivered

pub returns-clause-unnoticed : goal.returns-clause-unnoticed
returns-clause-unnoticed c = dropped_unnoticed

pub returns-clause-had : goal.returns-clause-had
returns-clause-had c = dropped_had
