use Rattle.gb_types.specs.Common.{◌≡◌, ◌≤◌, ◌+◌, ◌-◌, prefix_len, range_with_len}
use Rattle.gb_layer.specs.Common.{is_in, numbered}
use Rattle.gb_fifo.specs.Order.{top, greatest}
use Rattle.gb_fifo.proofs.plain.top.Given as goal

abbrev pub invariant-loop-k : goal.invariant-loop-k
invariant-loop-k l =
    record {
      last : l.last ≡ greatest l.delivered;
      within : l.k ≤ l.last;
      so_far : l.k + prefix_len (λ seq. is_in l.delivered (numbered l.origin seq)) (range_with_len (l.k + 1) (l.last - l.k)) ≡ top l.origin l.delivered;
    }

abbrev pub decreases-loop-k : goal.decreases-loop-k
decreases-loop-k l = l.last - l.k
