use Rattle.gb_types.specs.Common.{◌≡◌, ◌-◌, ◌≤◌, length, replicate}
use Rattle.gb_types.specs.declared.limits.TheConstants.{NODES}
use Rattle.gb_group_run.specs.SlotMember.{new_member}
use Rattle.gb_group_run.proofs.run.members.Given as goal

abbrev pub invariant-all : goal.invariant-all
invariant-all l = (l.members.items ≡ replicate (length l.members.items) new_member) × (length l.members.items ≤ NODES)

abbrev pub decreases-all : goal.decreases-all
decreases-all l = NODES - length l.members.items
