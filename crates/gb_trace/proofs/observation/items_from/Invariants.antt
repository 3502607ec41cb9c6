use Rattle.gb_types.specs.Common.{◌≡◌, map}
use Rattle.gb_alone.specs.Common.{numbers_below}
use Rattle.gb_node.specs.Common.{frames_to}
use Rattle.gb_isolation.specs.Project.{group_items_of}
use Rattle.gb_trace.specs.NodeSteps.{past_in}
use Rattle.gb_trace.proofs.observation.items_from.Given as goal

abbrev pub invariant-loop-b : goal.invariant-loop-b
invariant-loop-b l = l.carried.items ≡ map (λ b. group_items_of l.addr (frames_to l.key b (past_in l.a l.node_steps))) (numbers_below l.b)
