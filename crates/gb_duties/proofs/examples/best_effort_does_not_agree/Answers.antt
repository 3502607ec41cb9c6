use Rattle.gb_duties.proofs.CrashLemmas.{loss_legal, loss_settled, loss_one, loss_two}
use Rattle.gb_duties.proofs.examples.best_effort_does_not_agree.Goals as goal

pub returns-clause-legal : goal.returns-clause-legal
returns-clause-legal c = loss_legal

pub returns-clause-settled : goal.returns-clause-settled
returns-clause-settled c = loss_settled

pub returns-clause-one : goal.returns-clause-one
returns-clause-one c = loss_one

pub returns-clause-two : goal.returns-clause-two
returns-clause-two c = loss_two
