use Rattle.gb_types.specs.Common.{take}
use Rattle.gb_trace.proofs.RunLemmas.{Goes}
use Rattle.gb_trace.proofs.run.run.Given as goal

abbrev pub invariant-loop-event : goal.invariant-loop-event
invariant-loop-event l = Goes l.fn.plan (take l.event-index l.events) l.answers.items l.cluster
