use Rattle.gb_types.specs.Common.{◌≡◌, map}
use Rattle.gb_group_run.specs.SlotMember.{seen_of}
use Rattle.gb_group_run.proofs.run.all_seen.Given as goal

abbrev pub invariant-loop-member : goal.invariant-loop-member
invariant-loop-member l = l.seen.items ≡ map (seen_of l.nodes) l.yielded
