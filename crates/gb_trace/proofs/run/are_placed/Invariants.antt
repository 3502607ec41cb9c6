use Rattle.gb_types.specs.Common.{take, All}
use Rattle.gb_cluster.specs.Common.{IsPlaced}
use Rattle.gb_trace.proofs.run.are_placed.Given as goal

abbrev pub invariant-loop-event : goal.invariant-loop-event
invariant-loop-event l = All (IsPlaced l.nodes) (take l.event-index l.events)
