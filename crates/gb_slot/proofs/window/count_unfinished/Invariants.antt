use Rattle.gb_types.specs.Common.{◌≡◌, ◌+◌, ◌≤◌, drop}
use Rattle.gb_slot.specs.Slot.{unfinished_of}
use Rattle.gb_slot.proofs.window.count_unfinished.Given as goal

abbrev pub invariant-loop-by : goal.invariant-loop-by
invariant-loop-by l = (l.count ≤ l.by-index) × (l.count + unfinished_of l.spec l.noticed (drop l.by-index l.acknowledged) ≡ unfinished_of l.spec l.noticed l.acknowledged)
