use Rattle.gb_types.specs.Common.{subst, sym}
use Rattle.gb_host.specs.Common.{SeatValue}
use Rattle.gb_mail.specs.Mailed.{HasCalled, HasMailed}
use Rattle.gb_mail.proofs.MailLemmas.{called_none, mailed_none}
use Rattle.gb_mail.proofs.mail.Mail.new.Goals as goal

pub invariant_of-result-clause-here : goal.invariant_of-result-clause-here
invariant_of-result-clause-here g c = subst (λ (s : SeatValue). ∥ HasCalled c.args.node s.calls c.args.seat.calls ∥₁) (sym c.of-2.ensures) (called_none c.args.node c.args.seat.calls)

pub invariant_of-result-clause-mailed : goal.invariant_of-result-clause-mailed
invariant_of-result-clause-mailed g c =
    let plan = c.args.host.now.plan in
    let Begun : g.row.P.Denot → Type 0 = λ p. ∥ HasMailed plan c.args.node g.P.Port.sends g.P.Port.receives 0 0 p c.args.port c.args.seat.calls c.args.seat.calls ∥₁ in
    let From : SeatValue → Type 0 = λ s. ∥ HasMailed plan c.args.node g.P.Port.sends g.P.Port.receives 0 0 c.of.result.value c.args.port s.calls c.args.seat.calls ∥₁ in
    subst From (sym c.of-2.ensures) (subst Begun (sym c.of.ensures) (mailed_none plan c.args.node g.P.Port.sends g.P.Port.receives c.args.port c.args.seat.calls))
