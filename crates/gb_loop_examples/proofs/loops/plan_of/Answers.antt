use Rattle.gb_types.specs.Common.{lit≤, arith}
use Rattle.gb_types.specs.declared.version.Version.TheVariants.{One}
use Rattle.gb_host.proofs.PlanLemmas.{all_named}
use Rattle.gb_loop_examples.proofs.loops.plan_of.Goals as goal

pub returns-clause-limits : goal.returns-clause-limits
returns-clause-limits c = record {
  nodes = omega (arith, c.requires.nodes.1);
  named = λ a there. all_named One c.args.alone.nodes a (omega (arith, c.requires.nodes.1)) c.requires.nodes.1 there;
  places = lit≤ tt;
  least = c.requires.silence.0;
  most = c.requires.silence.1;
}
