use Rattle.gb_types.specs.Common.{◌≡◌, ◌&&◌, ◌||◌, refl, subst, sym, ◌∙◌}
use Rattle.gb_host.specs.Common.{SeatValue}
use Rattle.gb_node.specs.declared.event.NodeEvent.TheVariants as events
use Rattle.gb_mail.specs.Replied.{HasReplied, shown_with}
use Rattle.gb_mail.proofs.MailLemmas.{called_more, moved_then, never, quiet_answer, replied}
use Rattle.gb_mail.proofs.mail.MailAnswers.answer.Goals as goal

pub invariant_of-self-clause-here : goal.invariant_of-self-clause-here
invariant_of-self-clause-here g c =
    let s = c.args.self.now in
    called_more s.origin.node s.origin.seat.value.calls s.seat.calls c.ask.new.seat.calls s.here c.ask.ensures.here

pub invariant_of-self-clause-mailed : goal.invariant_of-self-clause-mailed
invariant_of-self-clause-mailed g c =
    let s = c.args.self.now in
    moved_then s.host.now.plan s.origin.node g.P.Port.sends g.P.Port.receives s.lost s.origin.port.value s.port s.port s.origin.seat.value.calls s.seat.calls c.ask.new.seat.calls s.mailed
    (quiet_answer g.L.Tapes.plan s.host.now.plan s.host.now.here s.origin.node g.P.Port.sends g.P.Port.receives s.port (events.Request c.args.request) s.seat c.ask.new.seat c.ask.result (never (events.Request c.args.request) c.ask.result (λ _. refl)) c.ask.ensures.answer)

pub returns : goal.returns
returns g c =
    let s = c.args.self.now in
    let Is : SeatValue → Type 0 = λ x. HasReplied g.L.Tapes.plan s.host.now.here s.origin.node s.seat c.args.request c.reply_of-reply.result x in
    let had : Is c.ask.new.seat =
    replied g.L.Tapes.plan s.host.now.here s.origin.node s.seat c.ask.new.seat c.args.request c.ask.result c.reply_of-reply.result c.ask.ensures.answer c.reply_of-reply.ensures.answered c.reply_of-reply.ensures.fault in
    let shows : c.shown_more-self.result ≡ shown_with c.args.request c.reply_of-reply.result s.shown =
    c.shown_more-self.ensures ∙ (λ i. record { is_admitted = s.shown.is_admitted || c.is_admitted-is_admitted.ensures i; is_admin = s.shown.is_admin || (c.needs_admin-is_admin.ensures i && c.is_admitted-is_admitted.ensures i) }) in (
      c.touch.ensures.origin,
      subst Is (sym c.touch.ensures.seat) had,
      (λ no. c.touch.ensures.touched (c.is_done.ensures ∙ no)),
      c.touch.ensures.shown ∙ shows,
    )
