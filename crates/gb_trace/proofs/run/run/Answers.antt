use Rattle.gb_types.specs.Common.{List, ◌++◌, ◌∷◌, [], take, sym, ◌∙◌, ap, subst, arith, take_all, take_more, list_any}
use Rattle.gb_cluster.specs.declared.event.Event.{Event}
use Rattle.gb_isolation.proofs.SeenLemmas.{is_seen_alone}
use Rattle.gb_trace.specs.Run.{tells_want}
use Rattle.gb_trace.proofs.RunLemmas.{Goes, run_begins, run_goes, placed_at, is_run, ample, denied_each, run_answered}
use Rattle.gb_trace.proofs.run.run.Goals as goal

pub loop-event-init : goal.loop-event-init
loop-event-init c = run_begins c.args.plan c.in_ok-answers.answers.items c.in_ok-cluster.cluster c.in_ok-answers.ensures.items c.in_ok-cluster.ensures.state c.in_ok-cluster.ensures.comes

pub loop-event-preserved : goal.loop-event-preserved
loop-event-preserved c =
    let events = c.args.events.now in
    let i = c.loop-event.event-index in
    let e = c.event-item.result in
    run_goes c.packets_say.ensures.senders c.args.plan (take i events) _ c.loop-event.answers.items _ c.loop-event.cluster c.step.new.self e c.in_ok-answer.answer c.loop-event.invariant
    (take_more events i e (omega arith) ∙ ap (λ (x : Event). take i events ++ x ∷ []) (sym c.event-item.is)) c.in_ok-push.ensures.items c.in_ok-answer.ensures.step

pub returns-clause-run : goal.returns-clause-run
returns-clause-run c =
    let d = c.loop-event.cluster in
    let whole = take_all c.loop-event.event-index c.args.events.now (omega arith) in
    let all = subst (λ (es : List Event). Goes c.args.plan es c.loop-event.answers.items d) whole c.loop-event.invariant in
    let run = is_run c.args.plan c.args.events.now c.loop-event.answers.items _ d all c.into_packets.ensures in
    let groups = c.groups_are_isolated.ensures c.args.plan _ d run.comes in
    (d, run, groups, λ none g. groups g (c.ample_runs_feed_all.ensures c.args.plan _ (ample c.into_packets.result.items c.args.events.now c.loop-event.answers.items (ap (list_any tells_want) (sym c.as_slice.ensures.value) ∙ (sym c.has_refusal-refused.ensures ∙ none))) g))

pub returns-clause-seen : goal.returns-clause-seen
returns-clause-seen c =
    let run = returns-clause-run c in
    λ g. is_seen_alone c.args.plan _ run.0 g (c.every_group_is_isolated.ensures c.args.plan _ run.0 run.1.comes g)

pub returns-clause-answered : goal.returns-clause-answered
returns-clause-answered c =
    let run = returns-clause-run c in
    run_answered c.packets_say.ensures.senders c.args.plan c.args.events.now _ _ run.0 run.1

pub returns-clause-strangers : goal.returns-clause-strangers
returns-clause-strangers c =
    let run = returns-clause-run c in
    denied_each c.strangers_are_denied.ensures c.args.plan _ run.0 run.1.comes

pub step-requires : goal.step-requires
step-requires c =
    let i = c.loop-event.event-index in
    placed_at c.args.plan (take i c.args.events.now) c.args.events.now c.loop-event.answers.items c.loop-event.cluster i c.event-item.result c.loop-event.invariant c.requires.placed (omega arith) c.event-item.is
