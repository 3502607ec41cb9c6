use Rattle.gb_types.specs.Common.{◌∙◌, sym, Bool, subst}
use Rattle.gb_node.specs.declared.event.NodeEvent.TheVariants.{Again, Ack}
use Rattle.gb_worker.specs.Gained.{Gains, IfDue, IsNoted}
use Rattle.gb_worker.proofs.CarryLemmas.{carried_more, ok_is_no_fault}
use Rattle.gb_worker.proofs.TurnLemmas.{sent_whole, part_pack, part_again, part_ack}
use Rattle.gb_worker.proofs.pump.send_to.Goals as goal

pub returns-in-Err-clause-ended : goal.returns-in-Err-clause-ended
returns-in-Err-clause-ended g c = λ none.
    part_pack c.args.turn.now.number c.args.turn.now.me c.args.to c.args.is_heard c.args.seat.now.calls c.send_one.new.seat.calls (c.in-Err.ensures.ended none)

pub returns-in-Err-send_due-clause-ended : goal.returns-in-Err-send_due-clause-ended
returns-in-Err-send_due-clause-ended g c = λ none.
    let begun = c.in-Err-send_due.ensures.ended none in
    part_again c.args.turn.now.number c.args.turn.now.me c.args.to c.args.is_heard c.in-Ok.is_given c.args.seat.now.calls c.send_one.new.seat.calls c.send_due.new.seat.calls
    (c.in-Ok.ensures.sent (c.in-Err-send_due.ensures.counts none)) (sym c.is_again_due-is_again.ensures ∙ begun.0) begun.1

pub returns-in-Err-send_due-clause-carried : goal.returns-in-Err-send_due-clause-carried
returns-in-Err-send_due-clause-carried g c = λ none not_fault.
    carried_more g.P.Port.sends g.P.Port.receives c.args.port.now c.send_one.new.port c.send_due.new.port c.args.seat.now.calls c.send_one.new.seat.calls c.send_due.new.seat.calls
    (c.in-Ok.ensures.carried (c.in-Err-send_due.ensures.counts none) (ok_is_no_fault c.in-Ok.is_given)) (c.in-Err-send_due.ensures.carried none not_fault)

pub returns-in-Ok-send_due-2-clause-sent : goal.returns-in-Ok-send_due-2-clause-sent
returns-in-Ok-send_due-2-clause-sent g c = λ none.
    let before = c.in-Ok-send_due-2.ensures.counts none in
    let again : Bool → Type 0 = λ t. Gains (IfDue t (IsNoted c.args.turn.now.me (Again c.args.to 0))) c.send_one.new.seat.calls c.send_due.new.seat.calls in
    let ack : Bool → Type 0 = λ t. Gains (IfDue t (IsNoted c.args.turn.now.me (Ack c.args.to))) c.send_due.new.seat.calls c.send_due-2.new.seat.calls in
    sent_whole c.args.turn.now.number c.args.turn.now.me c.args.to c.args.is_heard c.in-Ok.is_given c.args.seat.now.calls c.send_one.new.seat.calls c.send_due.new.seat.calls c.send_due-2.new.seat.calls
    (c.in-Ok.ensures.sent (c.in-Ok-send_due.ensures.counts before))
    (subst again c.is_again_due-is_again.ensures (c.in-Ok-send_due.ensures.sent before))
    (subst ack c.is_ack_due-is_ack.ensures (c.in-Ok-send_due-2.ensures.sent none))

pub returns-in-Ok-send_due-2-clause-carried : goal.returns-in-Ok-send_due-2-clause-carried
returns-in-Ok-send_due-2-clause-carried g c = λ none not_fault.
    let before = c.in-Ok-send_due-2.ensures.counts none in
    carried_more g.P.Port.sends g.P.Port.receives c.args.port.now c.send_due.new.port c.send_due-2.new.port c.args.seat.now.calls c.send_due.new.seat.calls c.send_due-2.new.seat.calls
    (carried_more g.P.Port.sends g.P.Port.receives c.args.port.now c.send_one.new.port c.send_due.new.port c.args.seat.now.calls c.send_one.new.seat.calls c.send_due.new.seat.calls
    (c.in-Ok.ensures.carried (c.in-Ok-send_due.ensures.counts before) (ok_is_no_fault c.in-Ok.is_given)) (c.in-Ok-send_due.ensures.carried before (ok_is_no_fault c.in-Ok-send_due.field-0)))
    (c.in-Ok-send_due-2.ensures.carried none (ok_is_no_fault c.in-Ok-send_due-2.field-0))

pub returns-in-Err-send_due-2-clause-ended : goal.returns-in-Err-send_due-2-clause-ended
returns-in-Err-send_due-2-clause-ended g c = λ none.
    let before = c.in-Err-send_due-2.ensures.counts none in
    let begun = c.in-Err-send_due-2.ensures.ended none in
    let again : Bool → Type 0 = λ t. Gains (IfDue t (IsNoted c.args.turn.now.me (Again c.args.to 0))) c.send_one.new.seat.calls c.send_due.new.seat.calls in
    part_ack c.args.turn.now.number c.args.turn.now.me c.args.to c.args.is_heard c.in-Ok.is_given c.args.seat.now.calls c.send_one.new.seat.calls c.send_due.new.seat.calls c.send_due-2.new.seat.calls
    (c.in-Ok.ensures.sent (c.in-Ok-send_due.ensures.counts before))
    (subst again c.is_again_due-is_again.ensures (c.in-Ok-send_due.ensures.sent before))
    (sym c.is_ack_due-is_ack.ensures ∙ begun.0) begun.1

pub returns-in-Err-send_due-2-clause-carried : goal.returns-in-Err-send_due-2-clause-carried
returns-in-Err-send_due-2-clause-carried g c = λ none not_fault.
    let before = c.in-Err-send_due-2.ensures.counts none in
    carried_more g.P.Port.sends g.P.Port.receives c.args.port.now c.send_due.new.port c.send_due-2.new.port c.args.seat.now.calls c.send_due.new.seat.calls c.send_due-2.new.seat.calls
    (carried_more g.P.Port.sends g.P.Port.receives c.args.port.now c.send_one.new.port c.send_due.new.port c.args.seat.now.calls c.send_one.new.seat.calls c.send_due.new.seat.calls
    (c.in-Ok.ensures.carried (c.in-Ok-send_due.ensures.counts before) (ok_is_no_fault c.in-Ok.is_given)) (c.in-Ok-send_due.ensures.carried before (ok_is_no_fault c.in-Ok-send_due.field-0)))
    (c.in-Err-send_due-2.ensures.carried none not_fault)
