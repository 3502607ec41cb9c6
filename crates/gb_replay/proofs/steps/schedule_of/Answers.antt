use Rattle.gb_types.specs.Common.{[], ap, subst, sym, Err, All}
use Rattle.gb_cluster.proofs.NodesLemmas.{stays}
use Rattle.gb_cluster.specs.Common.{IsPlaced}
use Rattle.gb_replay.proofs.ReplayLemmas.{why_is}
use Rattle.gb_replay.proofs.steps.schedule_of.Goals as goal

pub returns-in_err-take_steps-clause-no_node : goal.returns-in_err-take_steps-clause-no_node
returns-in_err-take_steps-clause-no_node c = λ is all.
    let count = (stays c.args.plan.now [] c.in_ok-cluster.cluster c.in_ok-cluster.ensures.comes).count in
    c.in_err-take_steps.ensures.no_node (ap Err (why_is c.from_residual-in_err-take_steps.result c.in_err-take_steps.field-0.0 _ c.from_residual-in_err-take_steps.ensures.1 is))
    (subst (λ k. All (IsPlaced k) c.args.events.now) (sym count) all)
