use Rattle.gb_types.specs.Common.{◌≡◌, take}
use Rattle.gb_node.specs.Common.{frames_to}
use Rattle.gb_isolation.specs.Project.{group_items_of}
use Rattle.gb_trace.specs.NodeSteps.{past_in}
use Rattle.gb_trace.proofs.observation.items_to.Given as goal

abbrev pub invariant-loop-i : goal.invariant-loop-i
invariant-loop-i l = l.items ≡ group_items_of l.addr (frames_to l.key l.b.number (past_in l.a (take l.i l.node_steps)))
