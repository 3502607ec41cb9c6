use Rattle.gb_types.specs.Common.{arith}
use Rattle.gb_fifo.proofs.OrderLemmas.{added_none, added_more, added_all}
use Rattle.gb_fifo.proofs.plain.add_numbered.Goals as goal

pub loop-k-init : goal.loop-k-init
loop-k-init c = record { within = omega arith; items = added_none c.args.origin c.args.from c.args.given.now.items }

pub loop-k-preserved : goal.loop-k-preserved
loop-k-preserved c =
    record {
      within = omega arith;
      items = added_more c.args.origin c.args.from c.loop-k.k c.args.given.now.items c.loop-k.given.items c.push.new.self.items c.loop-k.auto.k c.loop-k.invariant.items c.in_ok-push.ensures.items;
    }

pub returns : goal.returns
returns c = added_all c.args.origin c.args.from c.args.to c.loop-k.k c.args.given.now.items c.loop-k.given.items c.loop-k-test.false c.loop-k.invariant.within c.loop-k.invariant.items
