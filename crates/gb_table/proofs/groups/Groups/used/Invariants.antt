use Rattle.gb_types.specs.Common.{◌≡◌, ◌≤◌, length, take}
use Rattle.gb_table.specs.GroupRows.{used}
use Rattle.gb_table.proofs.groups.Groups.used.Given as goal

abbrev pub invariant-loop-place : goal.invariant-loop-place
invariant-loop-place l = (l.count ≡ length (used (take l.place l.self.rows))) × (l.count ≤ l.place)
