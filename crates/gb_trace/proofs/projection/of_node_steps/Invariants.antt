use Rattle.gb_types.specs.Common.{◌≡◌, take, reverse}
use Rattle.gb_isolation.specs.Project as projected
use Rattle.gb_trace.specs.Kept.{Keeps}
use Rattle.gb_trace.proofs.projection.of_node_steps.Given as goal

abbrev pub invariant-loop-i : goal.invariant-loop-i
invariant-loop-i l = (l.steps.items ≡ projected.project l.plan l.addr (reverse (take l.i l.node_steps))) × Keeps l.plan l.addr (reverse (take l.i l.node_steps)) l.nodes.items
