-- A node is started in a cluster of at most NODES nodes.
use Rattle.gb_types.specs.Common.{◌≤◌, arith, limits_are_within}
use Rattle.gb_types.specs.declared.limits.TheConstants.{NODES}
use Rattle.gb_node.specs.NodeValue.{IsNodePlan}
use Rattle.gb_node.specs.declared.plan.NodePlan.{NodePlan}

pub few_nodes : (plan : NodePlan) → IsNodePlan plan → plan.nodes ≤ NODES
few_nodes plan right =
    let named = right.cluster in
    let most = (limits_are_within plan.version).nodes in
    omega (arith, named, most)
