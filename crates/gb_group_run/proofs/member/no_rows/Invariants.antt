use Rattle.gb_types.specs.Common.{◌≡◌, ◌-◌, ◌≤◌, [], length, replicate}
use Rattle.gb_types.specs.declared.limits.TheConstants.{NODES}
use Rattle.gb_group_run.proofs.member.no_rows.Given as goal

abbrev pub invariant-all : goal.invariant-all
invariant-all l = (l.rows.items ≡ replicate (length l.rows.items) []) × (length l.rows.items ≤ NODES)

abbrev pub decreases-all : goal.decreases-all
decreases-all l = NODES - length l.rows.items
