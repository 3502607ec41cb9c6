use Rattle.gb_types.specs.Common.{◌∙◌, ap, refl, subst, sym, length, Err, All-get_or}
use Rattle.gb_cluster.specs.Common.{IsPlaced}
use Rattle.gb_replay.proofs.ReplayLemmas.{begun, goes_on, why_is}
use Rattle.gb_replay.proofs.steps.take_steps.Goals as goal

pub loop-event-init : goal.loop-event-init
loop-event-init c =
    (begun c.args.cluster.now.plan c.args.text.now.schedule.items c.args.text.now.answers.items c.args.cluster.now c.requires.fresh c.requires.comes c.requires.schedule c.requires.answers, refl)

pub returns-in_err-take_step-clause-no_node : goal.returns-in_err-take_step-clause-no_node
returns-in_err-take_step-clause-no_node c = λ is all.
    let count = length c.args.cluster.now.nodes in
    let e = c.event-item.result in
    let here = subst (IsPlaced count) (sym c.event-item.is) (All-get_or (IsPlaced count) c.args.events.now c.loop-event.event-index e c.loop-event-test.true all) in
    c.in_err-take_step.ensures.no_node (ap Err (why_is c.from_residual.result c.in_err-take_step.field-0.0 _ c.from_residual.ensures.1 is))
    (subst (λ k. IsPlaced k e) (sym c.loop-event.invariant.1) here)

pub loop-event-preserved : goal.loop-event-preserved
loop-event-preserved c = (
  goes_on c.args.cluster.now.plan c.args.events.now c.loop-event.event-index c.event-item.result c.event-item.result c.loop-event.cluster c.take_step.new.cluster c.loop-event.text.schedule.items c.take_step.new.text.schedule.items c.loop-event.text.answers.items c.take_step.new.text.answers.items
      c.loop-event-test.true c.event-item.is c.loop-event.invariant.0 c.in_ok-take_step.ensures.ok,
  c.in_ok-take_step.ensures.nodes ∙ c.loop-event.invariant.1,
)
