use Rattle.gb_types.specs.Common.{◌≡◌, ◌++◌, List, subst, OnOk}
use Rattle.gb_alone.specs.declared.event.GroupStep.{GroupStep}
use Rattle.gb_trace.specs.NodeSteps.{past_in}
use Rattle.gb_trace.proofs.CountLemmas.{acknowledged_is}
use Rattle.gb_trace.proofs.carried.of_acknowledgement.Goals as goal

pub returns : goal.returns
returns c =
    subst (λ (xs : List GroupStep). OnOk c.add_all_acknowledged.result (c.add_all_acknowledged.new.steps.items ≡ c.args.steps.now.items ++ xs))
    (acknowledged_is c.args.moment.plan.now c.args.moment.addr (past_in c.args.moment.node c.args.moment.before.now) c.args.moment.node c.args.packet.now c.sender.result.number c.link_at-link.result.now.frames c.sender.ensures.number c.link_at-link.ensures.frames)
    c.add_all_acknowledged.ensures
