use Rattle.gb_types.specs.Common.{◌≡◌, ◌≤◌, ◌-◌, length}
use Rattle.gb_table.specs.Rooms.{first_free}
use Rattle.gb_table.proofs.groups.Groups.first_free.Given as goal

abbrev pub invariant-loop-place : goal.invariant-loop-place
invariant-loop-place l = (l.place ≤ length l.self.rows) × (first_free l.place l.self.rows ≡ first_free l.from l.self.rows)

abbrev pub decreases-loop-place : goal.decreases-loop-place
decreases-loop-place l = length l.self.rows - l.place
