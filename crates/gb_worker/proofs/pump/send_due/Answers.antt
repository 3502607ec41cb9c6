use Rattle.gb_worker.proofs.CarryLemmas.{carried_none}
use Rattle.gb_worker.proofs.TurnLemmas.{due_made}
use Rattle.gb_worker.proofs.pump.send_due.Goals as goal

pub returns-then-not-is_due-clause-carried : goal.returns-then-not-is_due-clause-carried
returns-then-not-is_due-clause-carried g c = λ none _. carried_none g.P.Port.sends g.P.Port.receives c.args.port.now c.args.seat.now.calls

pub returns-in-Ok-clause-sent : goal.returns-in-Ok-clause-sent
returns-in-Ok-clause-sent g c = λ none. due_made c.args.turn.now.me c.args.event c.in-Ok.field-0 c.args.is_due c.args.seat.now.calls c.send_one.new.seat.calls c.if-not-is_due.false (c.in-Ok.ensures.sent none)
