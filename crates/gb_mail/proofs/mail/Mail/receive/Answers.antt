use Rattle.gb_types.specs.Common.{subst, sym}
use Rattle.gb_host.specs.declared.plan.HostPlan.{HostPlan}
use Rattle.gb_mail.specs.Mailed.{IsTakenOrNot}
use Rattle.gb_mail.proofs.MailLemmas.{called_more, mailed_in, mailed_more, moved_nothing, moved_then, nothing_lost}
use Rattle.gb_mail.proofs.mail.Mail.receive.Goals as goal

pub invariant_of-self-clause-mailed : goal.invariant_of-self-clause-mailed
invariant_of-self-clause-mailed g c =
    let s = c.args.self.now in
    moved_then s.host.now.plan s.origin.node g.P.Port.sends g.P.Port.receives s.lost s.origin.port.value s.port c.next_packet.new.port s.origin.seat.value.calls s.seat.calls s.seat.calls s.mailed
    (moved_nothing s.host.now.plan s.origin.node g.P.Port.sends g.P.Port.receives s.port c.next_packet.new.port s.seat.calls c.in-None.ensures.none)

pub returns-in-None-clause-mailed : goal.returns-in-None-clause-mailed
returns-in-None-clause-mailed g c =
    let s = c.args.self.now in
    nothing_lost g.L.Tapes.plan s.origin.node g.P.Port.sends g.P.Port.receives s.lost s.port c.next_packet.new.port s.seat.calls s.seat.calls
    (moved_nothing g.L.Tapes.plan s.origin.node g.P.Port.sends g.P.Port.receives s.port c.next_packet.new.port s.seat.calls c.in-None.ensures.none)

pub invariant_of-self-2-clause-here : goal.invariant_of-self-2-clause-here
invariant_of-self-2-clause-here g c =
    let s = c.args.self.now in
    called_more s.origin.node s.origin.seat.value.calls s.seat.calls c.take_packet-taken.new.seat.calls s.here c.take_packet-taken.ensures.here

pub invariant_of-self-2-clause-mailed : goal.invariant_of-self-2-clause-mailed
invariant_of-self-2-clause-mailed g c =
    let s = c.args.self.now in
    let taken = subst (λ (p : HostPlan). IsTakenOrNot p s.origin.node c.in-Some.bytes.items s.seat c.take_packet-taken.new.seat s.lost c.take_packet-taken.new.lost) (sym c.plan_says.ensures) c.take_packet-taken.ensures.taken in
    mailed_more s.host.now.plan s.origin.node g.P.Port.sends g.P.Port.receives s.lost c.take_packet-taken.new.lost s.origin.port.value s.port c.next_packet.new.port s.origin.seat.value.calls s.seat.calls c.take_packet-taken.new.seat.calls s.mailed
    (mailed_in s.host.now.plan s.origin.node g.P.Port.sends g.P.Port.receives s.port c.next_packet.new.port c.in-Some.bytes s.seat c.take_packet-taken.new.seat s.lost c.take_packet-taken.new.lost c.in-Some.ensures.some taken)

pub returns-clause-mailed : goal.returns-clause-mailed
returns-clause-mailed g c =
    let s = c.args.self.now in
    mailed_in g.L.Tapes.plan s.origin.node g.P.Port.sends g.P.Port.receives s.port c.next_packet.new.port c.in-Some.bytes s.seat c.take_packet-taken.new.seat s.lost c.take_packet-taken.new.lost c.in-Some.ensures.some c.take_packet-taken.ensures.taken
