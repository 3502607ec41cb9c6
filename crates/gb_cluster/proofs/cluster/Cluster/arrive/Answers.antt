use Rattle.gb_types.specs.Common.{List, length, sym, subst}
use Rattle.gb_cluster.specs.ClusterValue.{ClusterValue, cluster}
use Rattle.gb_cluster.specs.ClusterStep.{AreForNodes, AreRead, IsStep}
use Rattle.gb_cluster.specs.Run.{IsReached}
use Rattle.gb_cluster.specs.declared.event.Event.TheVariants as Events
use Rattle.gb_cluster.specs.declared.posted.Posted.{Posted}
use Rattle.gb_cluster.proofs.CodeLemmas.{for_nodes, goes_on, kept_after}
use Rattle.gb_cluster.proofs.cluster.Cluster.arrive.Goals as goal

pub arrive-requires-clause-inside : goal.arrive-requires-clause-inside
arrive-requires-clause-inside c =
    let i = c.self.inside in
    subst (AreForNodes (length i.nodes.items)) (sym c.deref.ensures.value) (for_nodes c.packets_are_honest.ensures (cluster i.plan i.nodes.items i.packets.items) c.self.invariant)

pub arrive-requires-clause-read : goal.arrive-requires-clause-read
arrive-requires-clause-read c =
    let i = c.self.inside in
    subst (AreRead i.nodes.items) (sym c.deref.ensures.value) (c.packets_are_read.ensures i.plan c.self.invariant.0 (cluster i.plan i.nodes.items i.packets.items) c.self.invariant.1)

pub returns-clause-step : goal.returns-clause-step
returns-clause-step c =
    let i = c.self.inside in
    subst (λ (v : ClusterValue). IsStep v (Events.Arrive c.args.number) c.arrive.result (cluster i.plan c.arrive.new.nodes.items i.packets.items)) c.self.view_is
    (subst (λ (ps : List Posted). IsStep (cluster i.plan i.nodes.items ps) (Events.Arrive c.args.number) c.arrive.result (cluster i.plan c.arrive.new.nodes.items ps)) c.deref.ensures.value (c.arrive.ensures i.plan))

pub returns-clause-run : goal.returns-clause-run
returns-clause-run c = goes_on c.args.self.now _ (Events.Arrive c.args.number) c.arrive.result (returns-clause-step c)

pub invariant_of-self : goal.invariant_of-self
invariant_of-self c = (kept_after c.args.self.now _ (Events.Arrive c.args.number) c.arrive.result (subst IsReached c.self.view_is c.self.invariant) (returns-clause-step c)).0

pub returns-clause-nodes : goal.returns-clause-nodes
returns-clause-nodes c = (kept_after c.args.self.now _ (Events.Arrive c.args.number) c.arrive.result (subst IsReached c.self.view_is c.self.invariant) (returns-clause-step c)).2
