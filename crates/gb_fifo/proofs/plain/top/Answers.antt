use Rattle.gb_types.specs.Common.{◌∙◌, sym, arith, ℕ}
use Rattle.gb_layer.specs.Common.{is_in, numbered}
use Rattle.gb_fifo.specs.Order.{top}
use Rattle.gb_fifo.proofs.OrderLemmas.{counted_more}
use Rattle.gb_fifo.proofs.plain.top.Goals as goal

pub loop-k-preserved : goal.loop-k-preserved
loop-k-preserved c =
    record {
      last = c.loop-k.invariant.last;
      within = omega arith;
      so_far = counted_more (λ (seq : ℕ). is_in c.args.delivered.now (numbered c.args.origin seq)) c.loop-k.k c.greatest-last.result (top c.args.origin c.args.delivered.now) c.loop-k-test.true (sym c.is_in.ensures ∙ c.if-is_in.true) c.loop-k.invariant.so_far;
    }
