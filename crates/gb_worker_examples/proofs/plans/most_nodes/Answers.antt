use Rattle.gb_types.specs.Common.{lit≤, arith}
use Rattle.gb_types.specs.declared.version.Version.TheVariants.{Two}
use Rattle.gb_host.proofs.PlanLemmas.{all_named}
use Rattle.gb_worker_examples.proofs.plans.most_nodes.Goals as goal

pub returns-clause-limits : goal.returns-clause-limits
returns-clause-limits c = record {
  nodes = omega arith;
  named = λ a there. all_named Two 32 a (omega arith) (omega arith) there;
  places = lit≤ tt;
  least = omega arith;
  most = omega arith;
}
