use Rattle.gb_slot.proofs.HistoryLemmas.{fresh_stands, moved_stands, said_stands, came_stands, noticed_stands, done_stands, took_stands, log_is, falls_is, waiting_said, waiting_came, waiting_noticed, waiting_took, waiting_elsewhere}
use Rattle.gb_slot.proofs.history.stands.Goals as goal

pub returns-clause-fresh : goal.returns-clause-fresh
returns-clause-fresh c = fresh_stands

pub returns-clause-opened : goal.returns-clause-opened
returns-clause-opened c = moved_stands

pub returns-clause-said : goal.returns-clause-said
returns-clause-said c = said_stands

pub returns-clause-came : goal.returns-clause-came
returns-clause-came c = came_stands

pub returns-clause-noticed : goal.returns-clause-noticed
returns-clause-noticed c = noticed_stands

pub returns-clause-done : goal.returns-clause-done
returns-clause-done c = done_stands

pub returns-clause-took : goal.returns-clause-took
returns-clause-took c = took_stands

pub returns-clause-log : goal.returns-clause-log
returns-clause-log c = log_is

pub returns-clause-falls : goal.returns-clause-falls
returns-clause-falls c = falls_is

pub returns-clause-waiting_said : goal.returns-clause-waiting_said
returns-clause-waiting_said c = waiting_said

pub returns-clause-waiting_came : goal.returns-clause-waiting_came
returns-clause-waiting_came c = waiting_came

pub returns-clause-waiting_noticed : goal.returns-clause-waiting_noticed
returns-clause-waiting_noticed c = waiting_noticed

pub returns-clause-waiting_took : goal.returns-clause-waiting_took
returns-clause-waiting_took c = waiting_took

pub returns-clause-waiting_elsewhere : goal.returns-clause-waiting_elsewhere
returns-clause-waiting_elsewhere c = waiting_elsewhere
