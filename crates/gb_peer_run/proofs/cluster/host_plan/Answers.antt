use Rattle.gb_types.specs.Common.{ℕ, ◌≤◌, lit≤, subst, sym, limits_of}
use Rattle.gb_host.proofs.PlanLemmas.{all_named}
use Rattle.gb_peer_run.proofs.cluster.host_plan.Goals as goal

pub returns-clause-limits : goal.returns-clause-limits
returns-clause-limits c =
    let named = subst (λ (n : ℕ). n ≤ (limits_of c.args.file.now.version).nodes) (sym c.node_count.ensures.value) c.requires.nodes.1 in
    record {
      nodes = c.node_count.ensures.most;
      named = λ a there. all_named c.args.file.now.version c.node_count.result a c.node_count.ensures.most named there;
      places = lit≤ tt;
      least = c.requires.silence.0;
      most = c.requires.silence.1;
    }
