use Rattle.gb_types.specs.Common.{arith, sym, ◌∙◌}
use Rattle.gb_cluster.proofs.CodeLemmas.{happened}
use Rattle.gb_cluster.proofs.cluster.happen.Goals as goal

pub returns : goal.returns
returns c plan =
    happened plan c.args.nodes.now.items c.args.packets.now.items c.turn.new.packets.items c.args.at c.index.result c.args.event.now c.turn.result c.index_mut-node.result.now c.turn.new.node c.index.ensures.value
    (omega (arith, c.requires.placed, c.index.ensures.value)) c.index_mut-node.ensures.value (sym c.is_no_noise.ensures ∙ c.if-is_no_noise.false) c.turn.ensures
