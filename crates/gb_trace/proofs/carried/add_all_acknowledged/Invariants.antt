use Rattle.gb_types.specs.Common.{◌≡◌, ◌+◌, ◌++◌, take, sum}
use Rattle.gb_node.specs.Common.{node_numbered}
use Rattle.gb_trace.specs.Counts.{counts_acknowledged, is_newly}
use Rattle.gb_trace.proofs.carried.add_all_acknowledged.Given as goal

abbrev pub invariant-loop-i : goal.invariant-loop-i
invariant-loop-i l =
    (l.steps.items ≡ l.fn.steps.items ++ counts_acknowledged l.a (node_numbered l.packet.from) (is_newly l.packet l.frames.acked.items) 1 0 (take l.i l.frames.counts.items)) × (l.place ≡ 1 + sum (take l.i l.frames.counts.items))
