use Rattle.gb_types.specs.Common.{lit≤}
use Rattle.gb_host.proofs.PlanLemmas.{all_named}
use Rattle.gb_server.proofs.serve_main.host_plan.Goals as goal

pub returns-clause-limits : goal.returns-clause-limits
returns-clause-limits c = λ within. record {
  nodes = within.nodes.1;
  named = λ a there. all_named c.args.plan.version c.args.plan.nodes a within.nodes.1 within.named there;
  places = lit≤ tt;
  least = within.silence.0;
  most = within.silence.1;
}
