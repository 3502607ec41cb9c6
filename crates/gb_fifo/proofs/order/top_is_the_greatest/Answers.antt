use Rattle.gb_fifo.proofs.OrderLemmas.{stands, ends}
use Rattle.gb_fifo.proofs.order.top_is_the_greatest.Goals as goal

pub returns-clause-stand : goal.returns-clause-stand
returns-clause-stand c = stands

pub returns-clause-ends : goal.returns-clause-ends
returns-clause-ends c = ends
