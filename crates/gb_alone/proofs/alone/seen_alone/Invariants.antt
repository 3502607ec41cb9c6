use Rattle.gb_types.specs.Common.{◌≡◌, take, length, fold, replicate}
use Rattle.gb_types.specs.declared.limits.TheConstants.{NODES}
use Rattle.gb_alone.specs.MemberLists.{new_member, values_after}
use Rattle.gb_alone.proofs.alone.seen_alone.Given as goal

abbrev pub invariant-loop-step : goal.invariant-loop-step
invariant-loop-step l = (l.group.items ≡ fold (values_after l.bounds l.address) (replicate NODES new_member) (take l.step-index l.steps)) × (length l.group.items ≡ NODES)
