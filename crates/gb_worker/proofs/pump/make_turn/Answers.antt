use Rattle.gb_worker.proofs.CarryLemmas.{carried_more, ok_is_no_fault}
use Rattle.gb_worker.proofs.TurnLemmas.{turn_part, turn_received}
use Rattle.gb_worker.proofs.pump.make_turn.Goals as goal

pub returns-in-Err-clause-ended : goal.returns-in-Err-clause-ended
returns-in-Err-clause-ended g c = λ none.
    turn_received c.args.turn.now.number c.args.turn.now.me c.args.turn.now.nodes c.args.seat.now.calls c.receive.new.seat.calls c.requires (c.in-Err.ensures.ended none)

pub returns-in-Ok-send_all-clause-carried : goal.returns-in-Ok-send_all-clause-carried
returns-in-Ok-send_all-clause-carried g c = λ none not_fault.
    carried_more g.P.Port.sends g.P.Port.receives c.args.port.now c.receive.new.port c.send_all.new.port c.args.seat.now.calls c.receive.new.seat.calls c.send_all.new.seat.calls
    (c.in-Ok.ensures.carried (c.in-Ok-send_all.ensures.counts none) (ok_is_no_fault c.in-Ok.heard)) (c.in-Ok-send_all.ensures.carried none (ok_is_no_fault c.in-Ok-send_all.field-0))

pub returns-in-Err-send_all-clause-ended : goal.returns-in-Err-send_all-clause-ended
returns-in-Err-send_all-clause-ended g c = λ none.
    turn_part c.args.turn.now.number c.args.turn.now.me c.args.turn.now.nodes c.in-Ok.heard c.args.seat.now.calls c.receive.new.seat.calls c.send_all.new.seat.calls
    (c.in-Ok.ensures.received (c.in-Err-send_all.ensures.counts none)) (c.in-Err-send_all.ensures.ended none)

pub returns-in-Err-send_all-clause-carried : goal.returns-in-Err-send_all-clause-carried
returns-in-Err-send_all-clause-carried g c = λ none not_fault.
    carried_more g.P.Port.sends g.P.Port.receives c.args.port.now c.receive.new.port c.send_all.new.port c.args.seat.now.calls c.receive.new.seat.calls c.send_all.new.seat.calls
    (c.in-Ok.ensures.carried (c.in-Err-send_all.ensures.counts none) (ok_is_no_fault c.in-Ok.heard)) (c.in-Err-send_all.ensures.carried none not_fault)
