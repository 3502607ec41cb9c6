use Rattle.std.proofs.Common.{◌≡◌, sym, subst}
use Rattle.gb_mail.specs.Mailed.{HasMailed}
use Rattle.gb_mail.proofs.mail.Mail.watch.Goals as goal

pub invariant_of-self-clause-here : goal.invariant_of-self-clause-here
invariant_of-self-clause-here g c = c.args.self.now.here

pub invariant_of-self-clause-mailed : goal.invariant_of-self-clause-mailed
invariant_of-self-clause-mailed g c =
    let s = c.args.self.now in
    subst (λ port. ∥ HasMailed s.host.now.plan s.origin.node g.P.Port.sends g.P.Port.receives 0 s.lost s.origin.port.value port s.origin.seat.value.calls s.seat.calls ∥₁) (sym c.watch.ensures.same) s.mailed
