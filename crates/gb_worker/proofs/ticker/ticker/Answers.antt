use Rattle.gb_types.specs.Common.{◌∙◌}
use Rattle.gb_worker.proofs.TickLemmas.{ticked_more}
use Rattle.gb_worker.proofs.ticker.ticker.Goals as goal

pub loop-node-preserved : goal.loop-node-preserved
loop-node-preserved g c = record {
  ticked = λ none.
      ticked_more c.args.host.now.here c.plan-nodes.result.cluster.nodes c.loop-turn.turn c.loop-node.node c.new.result c.args.seat.now.calls c.loop-node.seat.calls c.tick.new.seat.calls c.new.ensures
      (c.loop-node.invariant.ticked (c.in-Ok.ensures.counts none)) (c.in-Ok.ensures.made none);
  number = c.in-Ok.ensures.number ∙ c.loop-node.invariant.number;
  uncounted = λ off. c.in-Ok.ensures.uncounted off ∙ c.loop-node.invariant.uncounted off;
}
