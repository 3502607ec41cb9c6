use Rattle.gb_types.specs.Common.{◌≡◌, take}
use Rattle.gb_trace.specs.Trace.{all_did}
use Rattle.gb_trace.proofs.node_steps.node_steps_of.Given as goal

abbrev pub invariant-loop-i : goal.invariant-loop-i
invariant-loop-i l = l.node_steps.items ≡ all_did l.packets (take l.i l.events) (take l.i l.answers)
