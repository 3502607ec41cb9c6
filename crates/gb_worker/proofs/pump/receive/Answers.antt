use Rattle.gb_types.specs.Common.{refl, ◌∙◌, sym, ap, arith, Err, subst, nat_cmp}
use Rattle.std.specs.FinSet as set
use Rattle.gb_worker.specs.Carried.{HasCarried}
use Rattle.gb_worker.specs.Gained.{Gains}
use Rattle.gb_worker.specs.Turns.{HasReceived, IsReceived}
use Rattle.gb_worker.specs.declared.pump.TheConstants.{PACKETS}
use Rattle.gb_worker.proofs.CarryLemmas.{carried_none, carried_more, carried_nothing, carried_in, carried_in_stopped, by_why}
use Rattle.gb_worker.proofs.TurnLemmas.{received_none, received_more, received_fault, received_stopped}
use Rattle.gb_worker.proofs.pump.receive.Goals as goal

pub loop-i-init : goal.loop-i-init
loop-i-init g c = record {
  received = λ none. let P : set.FinSet nat_cmp → Type 0 = λ s. Gains (HasReceived c.args.turn.now.me 0 s) c.args.seat.now.calls c.args.seat.now.calls in subst P (sym c.new-heard.ensures) (received_none c.args.turn.now.me c.args.seat.now.calls);
  carried = λ none. carried_none g.P.Port.sends g.P.Port.receives c.args.port.now c.args.seat.now.calls;
  counts = λ none. none;
  number = refl;
  uncounted = λ _. refl;
  stops = refl;
}

pub returns-in_default-clause-carried : goal.returns-in_default-clause-carried
returns-in_default-clause-carried g c = λ none _.
    carried_more g.P.Port.sends g.P.Port.receives c.args.port.now c.loop-i.port c.next_packet.new.port c.args.seat.now.calls c.loop-i.seat.calls c.loop-i.seat.calls (c.loop-i.invariant.carried none)
    (carried_nothing g.P.Port.sends g.P.Port.receives c.loop-i.port c.next_packet.new.port c.loop-i.seat.calls c.in_default.ensures.none)

pub returns-in-Err-clause-ended : goal.returns-in-Err-clause-ended
returns-in-Err-clause-ended g c = λ none.
    let so_far = c.loop-i.invariant.received (c.in-Err.ensures.counts none) in
    by_why (Gains (IsReceived c.args.turn.now.me PACKETS) c.args.seat.now.calls c.make.new.seat.calls) c.in-Err.why c.in-Err.ensures.why
    (λ e. received_stopped c.args.turn.now.me c.loop-i._i c.loop-i.heard c.from.result c.args.seat.now.calls c.loop-i.seat.calls c.make.new.seat.calls so_far (omega arith) (c.in-Err.ensures.halted none (ap Err e)))
    (λ e. received_fault c.args.turn.now.me c.loop-i._i c.loop-i.heard c.args.seat.now.calls c.loop-i.seat.calls c.make.new.seat.calls so_far (omega arith) (c.in-Err.ensures.fault (ap Err e)))

pub returns-in-Err-clause-carried : goal.returns-in-Err-clause-carried
returns-in-Err-clause-carried g c = λ none not_fault.
    let so_far = c.loop-i.invariant.carried (c.in-Err.ensures.counts none) in
    by_why (HasCarried g.P.Port.sends g.P.Port.receives c.args.port.now c.next_packet.new.port c.args.seat.now.calls c.make.new.seat.calls) c.in-Err.why c.in-Err.ensures.why
    (λ e. carried_more g.P.Port.sends g.P.Port.receives c.args.port.now c.loop-i.port c.next_packet.new.port c.args.seat.now.calls c.loop-i.seat.calls c.make.new.seat.calls so_far
    (carried_in_stopped g.P.Port.sends g.P.Port.receives c.loop-i.port c.next_packet.new.port c.loop-i.seat.calls c.make.new.seat.calls c.args.turn.now.me c.in-Some.bytes c.from.result c.in-Some.ensures.some c.from.ensures (c.in-Err.ensures.halted none (ap Err e))))
    (λ e. absurd (not_fault (ap Err e)))

pub loop-i-preserved : goal.loop-i-preserved
loop-i-preserved g c = record {
  received = λ none.
      let m = c.in-Ok.ensures.made none in
      received_more c.args.turn.now.me c.loop-i._i c.loop-i.heard c.hear.new.heard c.from.result m.0 c.args.seat.now.calls c.loop-i.seat.calls c.make.new.seat.calls (c.loop-i.invariant.received (c.in-Ok.ensures.counts none)) (c.hear.ensures m.0 m.1) m.2;
  carried = λ none.
      let m = c.in-Ok.ensures.made none in
      carried_more g.P.Port.sends g.P.Port.receives c.args.port.now c.loop-i.port c.next_packet.new.port c.args.seat.now.calls c.loop-i.seat.calls c.make.new.seat.calls (c.loop-i.invariant.carried (c.in-Ok.ensures.counts none))
      (carried_in g.P.Port.sends g.P.Port.receives c.loop-i.port c.next_packet.new.port c.loop-i.seat.calls c.make.new.seat.calls c.args.turn.now.me c.in-Some.bytes c.from.result m.0 c.in-Some.ensures.some c.from.ensures m.2);
  counts = λ none. c.loop-i.invariant.counts (c.in-Ok.ensures.counts none);
  number = c.in-Ok.ensures.number ∙ c.loop-i.invariant.number;
  uncounted = λ sure. c.in-Ok.ensures.uncounted sure ∙ c.loop-i.invariant.uncounted sure;
  stops = c.in-Ok.ensures.stops ∙ c.loop-i.invariant.stops;
}
