use Rattle.gb_types.specs.Common.{◌∙◌, ◌||◌, ap, option_or}
use Rattle.gb_trace.specs.NodeSteps.{past_in}
use Rattle.gb_trace.proofs.KeptLemmas.{node_goes_on}
use Rattle.gb_trace.proofs.kept.keep_at.Goals as goal

pub returns : goal.returns
returns c =
    let d = c.args.node_step.now in
    let old = c.args.node.now in
    node_goes_on c.args.moment.plan.now c.args.moment.addr c.args.moment.node (record { event = d.event; answer = d.answer }) (past_in c.args.moment.node c.args.moment.before.now) old
    (record { row = c.or-node.result; stopped = c.either-node.result; met = c.either-node-2.result; made = c.keep_made.new.made; links = c.keep_links.new.links })
    (c.or-node.ensures ∙ ap (option_or old.row) (c.copied.ensures ∙ c.row_in.ensures)) (c.either-node.ensures ∙ ap (λ t. t || old.stopped) c.stops.ensures)
    (c.either-node-2.ensures ∙ ap (λ t. t || old.met) c.meets-met.ensures) c.keep_made.ensures c.in_ok-keep_links.ensures c.requires.kept
