use Rattle.gb_types.specs.Common.{◌≡◌, take}
use Rattle.gb_fifo.specs.Order.{in_order}
use Rattle.gb_fifo.proofs.plain.in_order.Given as goal

abbrev pub invariant-loop-i : goal.invariant-loop-i
invariant-loop-i l = l.given.items ≡ in_order (take l.i l.delivered)
