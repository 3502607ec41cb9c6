use Rattle.gb_types.specs.Common.{◌≡◌, take, length}
use Rattle.gb_types.specs.declared.limits.TheConstants.{NODES}
use Rattle.gb_alone.specs.Alone as one_group
use Rattle.gb_group_run.proofs.Stands.{SlotLaws, AllStand}
use Rattle.gb_group_run.proofs.run.seen_by_slots.Given as goal

abbrev pub invariant-loop-step : goal.invariant-loop-step
invariant-loop-step l = record {
  laws : SlotLaws;
  all : AllStand l.group.items (one_group.alone l.bounds l.address (take l.step-index l.steps));
  size : length l.group.items ≡ NODES;
}
