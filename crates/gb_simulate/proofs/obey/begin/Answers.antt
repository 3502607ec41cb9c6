use Rattle.gb_simulate.proofs.OfClusterLemmas.{started_so, has_nodes, is_plan}
use Rattle.gb_simulate.proofs.obey.begin.Goals as goal

pub start-requires : goal.start-requires
start-requires c = rw c.plan_of.ensures (is_plan c.args.start.now c.requires)

pub returns-clause-few : goal.returns-clause-few
returns-clause-few c = has_nodes c.in_ok-cluster.cluster c.args.start.now c.requires (started_so c.in_ok-cluster.cluster c.args.start.now (rw c.plan_of.ensures at c.in_ok-cluster.ensures.state))

pub returns-clause-started : goal.returns-clause-started
returns-clause-started c = started_so c.in_ok-cluster.cluster c.args.start.now (rw c.plan_of.ensures at c.in_ok-cluster.ensures.state)
