use Rattle.gb_types.specs.Common.{◌≡◌, ◌+◌, ◌≤◌, length}
use Rattle.gb_isolation.specs.Project.{group_items}
use Rattle.gb_trace.proofs.reading.count_in.Given as goal

abbrev pub invariant-loop-one : goal.invariant-loop-one
invariant-loop-one l = (l.count + length (group_items l.addr l.one-iterator) ≡ length (group_items l.addr l.packet.items)) × (l.count + length l.one-iterator ≤ length l.packet.items)
