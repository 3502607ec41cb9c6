use Rattle.gb_duties.proofs.CrashLemmas.{alone_legal, alone_settled, one_is_not_enough, alone_undelivered}
use Rattle.gb_duties.proofs.examples.majority_ack_promises_nothing_without_a_majority.Goals as goal

pub returns-clause-legal : goal.returns-clause-legal
returns-clause-legal c = alone_legal

pub returns-clause-settled : goal.returns-clause-settled
returns-clause-settled c = alone_settled

pub returns-clause-few : goal.returns-clause-few
returns-clause-few c = one_is_not_enough

pub returns-clause-undelivered : goal.returns-clause-undelivered
returns-clause-undelivered c = alone_undelivered
