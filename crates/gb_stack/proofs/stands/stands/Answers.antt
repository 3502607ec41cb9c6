use Rattle.gb_stack.proofs.StandsLemmas.{new_stands, called_stands, hands_up_delivered, sends_broadcast, hands_up_log, log_grows}
use Rattle.gb_stack.proofs.stands.stands.Goals as goal

pub returns-clause-new : goal.returns-clause-new
returns-clause-new c = new_stands

pub returns-clause-called : goal.returns-clause-called
returns-clause-called c = called_stands

pub returns-clause-up : goal.returns-clause-up
returns-clause-up c = hands_up_delivered

pub returns-clause-out : goal.returns-clause-out
returns-clause-out c = sends_broadcast

pub returns-clause-log : goal.returns-clause-log
returns-clause-log c = hands_up_log

pub returns-clause-grows : goal.returns-clause-grows
returns-clause-grows c = log_grows
