use Rattle.gb_types.specs.Common.{take}
use Rattle.toml.specs.View.{items_view}
use Rattle.gb_cluster_file.specs.Cluster.{AreNodes}
use Rattle.gb_cluster_file.proofs.read.nodes_of.Given as goal

abbrev pub invariant-loop-node : goal.invariant-loop-node
invariant-loop-node l = AreNodes (items_view (take l.node l.values)) l.nodes.items
