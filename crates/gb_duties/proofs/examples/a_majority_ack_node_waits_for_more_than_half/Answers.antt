use Rattle.gb_duties.proofs.ExampleLemmas.{majority_not_yet, majority_delivered, majority_had_first, majority_had_second}
use Rattle.gb_duties.proofs.examples.a_majority_ack_node_waits_for_more_than_half.Goals as goal

pub returns-clause-not_yet : goal.returns-clause-not_yet
returns-clause-not_yet c = majority_not_yet

pub returns-clause-delivered : goal.returns-clause-delivered
returns-clause-delivered c = majority_delivered

pub returns-clause-had_first : goal.returns-clause-had_first
returns-clause-had_first c = majority_had_first

pub returns-clause-had_second : goal.returns-clause-had_second
returns-clause-had_second c = majority_had_second
