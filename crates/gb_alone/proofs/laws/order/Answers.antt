use Rattle.gb_alone.proofs.OrderLemmas.{in_order}
use Rattle.gb_alone.proofs.laws.order.Goals as goal

pub returns : goal.returns
returns c = in_order
