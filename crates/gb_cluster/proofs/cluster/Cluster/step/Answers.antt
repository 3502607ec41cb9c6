use Rattle.gb_types.specs.Common.{sym, subst, IfOk}
use Rattle.gb_cluster.specs.Run.{RunGoesOn}
use Rattle.gb_cluster.specs.declared.event.Event.{Event}
use Rattle.gb_cluster.proofs.cluster.Cluster.step.Goals as goal

pub returns-in-At-clause-run : goal.returns-in-At-clause-run
returns-in-At-clause-run c = subst (λ (e : Event). IfOk c.happen.result (λ a. RunGoesOn c.args.self.now e a c.happen.new.self)) (sym c.in-At.is) c.happen.ensures.run

pub returns-in-Arrive-clause-run : goal.returns-in-Arrive-clause-run
returns-in-Arrive-clause-run c = subst (λ (e : Event). RunGoesOn c.args.self.now e c.arrive.result c.arrive.new.self) (sym c.in-Arrive.is) c.arrive.ensures.run
