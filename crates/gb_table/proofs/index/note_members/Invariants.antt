use Rattle.gb_types.specs.Common.{length, rising_from}
use Rattle.gb_table.specs.Busy.{IsNoted}
use Rattle.gb_table.proofs.index.note_members.Given as goal

abbrev pub invariant-loop-node : goal.invariant-loop-node
invariant-loop-node l = IsNoted l.from l.place l.slot l.fn.busy l.busy

abbrev pub decreases-loop-node : goal.decreases-loop-node
decreases-loop-node l = length (rising_from l.slot.spec.members l.from)
