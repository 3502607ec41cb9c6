use Rattle.gb_types.specs.Common.{◌≡◌, ◌↔◌, drop}
use Rattle.gb_node.proofs.same.same_entries.Given as goal

abbrev pub invariant-loop-i : goal.invariant-loop-i
invariant-loop-i l = (l.first ≡ l.second) ↔ (drop l.i l.first ≡ drop l.i l.second)
