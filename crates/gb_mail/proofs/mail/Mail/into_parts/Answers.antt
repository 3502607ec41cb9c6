use Rattle.gb_types.specs.Common.{subst}
use Rattle.gb_host.specs.declared.plan.HostPlan.{HostPlan}
use Rattle.gb_mail.specs.Mailed.{HasMailed}
use Rattle.gb_mail.proofs.mail.Mail.into_parts.Goals as goal

pub returns-clause-mailed : goal.returns-clause-mailed
returns-clause-mailed g c =
    let s = c.args.self in
    subst (λ (p : HostPlan). ∥ HasMailed p s.origin.node g.P.Port.sends g.P.Port.receives 0 s.lost s.origin.port.value s.port s.origin.seat.value.calls s.seat.calls ∥₁) c.plan_says.ensures s.mailed
