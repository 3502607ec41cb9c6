use Rattle.gb_types.specs.Common.{◌≡◌, ◌++◌}
use Rattle.gb_isolation.specs.Project.{group_items}
use Rattle.gb_trace.proofs.reading.add_items.Given as goal

abbrev pub invariant-loop-item : goal.invariant-loop-item
invariant-loop-item l = l.items ++ group_items l.addr l.item-iterator ≡ l.initial.items ++ group_items l.addr l.packet.items
