use Rattle.gb_types.specs.Common.{subst}
use Rattle.gb_host.specs.declared.plan.HostPlan.{HostPlan}
use Rattle.gb_server.specs.Ended.{EndsSo}
use Rattle.gb_server.proofs.serve_main.serve_plan.Goals as goal

pub returns-clause-ends : goal.returns-clause-ends
returns-clause-ends g c = λ closed.
    let ends = c.serve_host.ensures.ends closed in
    (ends.0, subst (λ (p : HostPlan). EndsSo p ends.0 c.serve_host.result) c.host_plan-plan.ensures.is ends.1)
