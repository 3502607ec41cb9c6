use Rattle.gb_fifo.proofs.InOrderLemmas.{order_numbers, order_runs, order_delivered, order_once}
use Rattle.gb_fifo.proofs.order.gives_up_whole_runs.Goals as goal

pub returns-clause-numbers : goal.returns-clause-numbers
returns-clause-numbers c = order_numbers

pub returns-clause-runs : goal.returns-clause-runs
returns-clause-runs c = order_runs

pub returns-clause-delivered : goal.returns-clause-delivered
returns-clause-delivered c = order_delivered

pub returns-clause-once : goal.returns-clause-once
returns-clause-once c = order_once
