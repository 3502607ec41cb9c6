use Rattle.gb_duties.proofs.ExampleLemmas.{all_ack_not_yet, all_ack_delivered, all_ack_had, all_ack_noticed}
use Rattle.gb_duties.proofs.examples.an_all_ack_node_waits_for_each_member.Goals as goal

pub returns-clause-not_yet : goal.returns-clause-not_yet
returns-clause-not_yet c = all_ack_not_yet

pub returns-clause-delivered : goal.returns-clause-delivered
returns-clause-delivered c = all_ack_delivered

pub returns-clause-had : goal.returns-clause-had
returns-clause-had c = all_ack_had

pub returns-clause-noticed : goal.returns-clause-noticed
returns-clause-noticed c = all_ack_noticed
