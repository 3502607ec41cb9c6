use Rattle.gb_types.specs.Common.{◌≡◌, ◌≤◌, map, vec_len, vec_capacity, range_with_len}
use Rattle.gb_node.specs.Common.{node_numbered, new_node}
use Rattle.gb_cluster.specs.ClusterValue.{node_plan}
use Rattle.gb_cluster.proofs.cluster.Cluster.start.Given as goal

abbrev pub invariant-loop-number : goal.invariant-loop-number
invariant-loop-number l = (l.nodes.items ≡ map (λ a. new_node (node_plan l.plan (node_numbered a))) (range_with_len 0 l.number)) × (vec_len l.nodes ≡ l.number) × (l.plan.nodes ≤ vec_capacity l.nodes)
