use Rattle.gb_types.specs.Common.{◌<◌, length, arith}
use Rattle.toml.specs.View.{items_view}
use Rattle.gb_cluster_file.proofs.ViewLemmas.{item_at, nodes_next}
use Rattle.gb_cluster_file.proofs.read.nodes_of.Goals as goal

pub returns-in-Err-clause-err : goal.returns-in-Err-clause-err
returns-in-Err-clause-err c =
    let lt : c.loop-node.node < length c.args.values.now = omega arith in
    c.in-Err.ensures.err (items_view c.args.values.now) (item_at c.args.values.now c.loop-node.node c.index-values-node.result lt c.index-values-node.is)

pub loop-node-preserved : goal.loop-node-preserved
loop-node-preserved c =
    let lt : c.loop-node.node < length c.args.values.now = omega arith in
    let one = c.in-Ok.ensures.ok in
    nodes_next c.args.values.now c.loop-node.node c.index-values-node.result c.loop-node.nodes.items c.put_node.new.nodes.items one.0 lt c.index-values-node.is one.1 c.loop-node.invariant one.2
