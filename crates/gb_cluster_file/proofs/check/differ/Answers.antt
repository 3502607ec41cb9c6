use Rattle.gb_types.specs.Common.{◌<◌, length, arith}
use Rattle.toml.specs.View.{view}
use Rattle.gb_cluster_file.proofs.ViewLemmas.{item_at, get_item-below, pairs_more}
use Rattle.gb_cluster_file.proofs.check.differ.Goals as goal

pub returns-in-Some-clause-err : goal.returns-in-Some-clause-err
returns-in-Some-clause-err c =
    let lt : c.loop-node.node < length c.args.values.now = omega arith in
    let found = c.in-Some.ensures.some in
    (found.1.0, view c.index-values-node.result, found.0, found.1.1, item_at c.args.values.now c.loop-node.node c.index-values-node.result lt c.index-values-node.is, found.1.2)

pub loop-node-preserved : goal.loop-node-preserved
loop-node-preserved c =
    let lt : c.loop-node.node < length c.args.values.now = omega arith in
    pairs_more c.args.values.now c.args.field c.loop-node.node c.index-values-node.result lt c.index-values-node.is c.in-None.ensures.none c.loop-node.invariant

pub returns-clause-ok : goal.returns-clause-ok
returns-clause-ok c = λ first node one other less at_first at_node same.
    let below = get_item-below c.args.values.now node other at_node in
    c.loop-node.invariant first node one other (omega arith) less at_first at_node same
