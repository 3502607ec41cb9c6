use Rattle.gb_types.specs.Common.{◌≡◌, ◌-◌, ◌++◌, ◌∙◌, List, ap, subst, OnOk, reverse}
use Rattle.gb_frame.specs.Common.{Content}
use Rattle.gb_alone.specs.declared.event.GroupStep.{GroupStep}
use Rattle.gb_trace.proofs.CountLemmas.{brought_is}
use Rattle.gb_trace.proofs.carried.of_frame.Goals as goal

pub returns : goal.returns
returns c =
    subst (λ (xs : List GroupStep). OnOk c.add_comes.result (c.add_comes.new.steps.items ≡ c.args.steps.now.items ++ xs))
    (brought_is c.args.moment.plan.now c.args.moment.addr (reverse c.args.moment.before.now) c.args.moment.node c.args.packet.now c.sender-from.result c.before-place.result c.saturating_sub.result c.count_in-count.result c.link_at-link.result.now.frames c.sender-from.ensures.node
    (c.saturating_sub.ensures ∙ ap (λ n. n - 1) (ap (λ (x : Content). x.frame) c.head.ensures)) c.before-place.ensures c.count_in-count.ensures c.link_at-link.ensures.frames)
    c.add_comes.ensures
