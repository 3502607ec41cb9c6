use Rattle.gb_types.specs.Common.{◌≡◌, ◌≤◌, ◌++◌, map, drop, max}
use Rattle.gb_layer.specs.Common.{numbered}
use Rattle.gb_fifo.specs.Order.{upto}
use Rattle.gb_fifo.proofs.plain.add_numbered.Given as goal

abbrev pub invariant-loop-k : goal.invariant-loop-k
invariant-loop-k l =
    record {
      within : l.k ≤ max l.from l.to;
      items : l.given.items ≡ l.fn.given.items ++ map (numbered l.origin) (drop l.from (upto l.k));
    }
