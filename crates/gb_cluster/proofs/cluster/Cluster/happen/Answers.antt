use Rattle.gb_types.specs.Common.{List, subst}
use Rattle.gb_cluster.specs.ClusterValue.{ClusterValue, cluster}
use Rattle.gb_cluster.specs.ClusterStep.{IsStep}
use Rattle.gb_cluster.specs.Run.{IsReached}
use Rattle.gb_cluster.specs.declared.event.Event.TheVariants as Events
use Rattle.gb_cluster.specs.declared.posted.Posted.{Posted}
use Rattle.gb_cluster.proofs.CodeLemmas.{goes_on, kept_after}
use Rattle.gb_cluster.proofs.cluster.Cluster.happen.Goals as goal

pub returns-clause-step : goal.returns-clause-step
returns-clause-step c =
    let i = c.self.inside in
    let event = Events.At c.args.at c.args.event.now in
    subst (λ (v : ClusterValue). IsStep v event c.happen.result (cluster i.plan c.happen.new.nodes.items c.happen.new.packets.items)) c.self.view_is
    (subst (λ (ps : List Posted). IsStep (cluster i.plan i.nodes.items ps) event c.happen.result (cluster i.plan c.happen.new.nodes.items c.happen.new.packets.items)) c.in_ok-reserve.ensures.items (c.happen.ensures i.plan))

pub returns-clause-run : goal.returns-clause-run
returns-clause-run c = goes_on c.args.self.now _ (Events.At c.args.at c.args.event.now) c.happen.result (returns-clause-step c)

pub invariant_of-self-2 : goal.invariant_of-self-2
invariant_of-self-2 c = (kept_after c.args.self.now _ (Events.At c.args.at c.args.event.now) c.happen.result (subst IsReached c.self.view_is c.self.invariant) (returns-clause-step c)).0

pub returns-clause-nodes : goal.returns-clause-nodes
returns-clause-nodes c = (kept_after c.args.self.now _ (Events.At c.args.at c.args.event.now) c.happen.result (subst IsReached c.self.view_is c.self.invariant) (returns-clause-step c)).2
