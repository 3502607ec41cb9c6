use Rattle.gb_fifo.proofs.OrderLemmas.{order_more}
use Rattle.gb_fifo.proofs.plain.in_order.Goals as goal

pub loop-i-preserved : goal.loop-i-preserved
loop-i-preserved c =
    order_more c.args.delivered.now c.loop-i.given.items c.add_numbered.new.given.items c.loop-i.i c.top-from.result c.top-to.result c.index-delivered-i.result
    c.loop-i-test.true c.index-delivered-i.is c.loop-i.invariant c.top-from.ensures c.top-to.ensures c.in_ok-add_numbered.ensures
