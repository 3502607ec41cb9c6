use Rattle.gb_types.specs.Common.{◌<◌, length, arith}
use Rattle.gb_trace.proofs.NodeStepLemmas.{newest_node_step}
use Rattle.gb_trace.proofs.node_steps.node_steps_of.Goals as goal

pub loop-i-preserved : goal.loop-i-preserved
loop-i-preserved c =
    let lt : c.loop-i.i < length c.args.events.now = omega arith in
    let ls : c.loop-i.i < length c.args.answers.now = omega arith in
    let more = newest_node_step c.args.packets.now c.args.events.now c.args.answers.now c.loop-i.i c.index-events-i.result c.index-answers-i.result lt ls c.index-events-i.is c.index-answers-i.is in
    cc (more, c.in_ok-add_node_step.ensures)
