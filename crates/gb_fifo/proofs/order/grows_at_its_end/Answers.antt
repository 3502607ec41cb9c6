use Rattle.gb_types.specs.Common.{[]}
use Rattle.gb_fifo.proofs.OrderLemmas.{ordered_append}
use Rattle.gb_fifo.proofs.order.grows_at_its_end.Goals as goal

pub returns : goal.returns
returns c = λ earlier later. ordered_append [] earlier later
