use Rattle.gb_mail.proofs.MailLemmas.{answered, called_one}
use Rattle.gb_mail.proofs.mail.ask.Goals as goal

pub returns-clause-answer : goal.returns-clause-answer
returns-clause-answer g c =
    answered g.L.Tapes.plan c.args.host.now.here c.args.node c.args.event c.args.seat.now c.call_or_skip.new.seat c.call_or_skip.result c.call_or_skip.ensures.calls c.call_or_skip.ensures.no_event c.call_or_skip.ensures.same c.call_or_skip.ensures.fault c.call_or_skip.ensures.err

pub returns-clause-here : goal.returns-clause-here
returns-clause-here g c =
    called_one g.L.Tapes.plan c.args.host.now.here c.args.node c.args.event c.args.seat.now c.call_or_skip.new.seat c.call_or_skip.result
    (answered g.L.Tapes.plan c.args.host.now.here c.args.node c.args.event c.args.seat.now c.call_or_skip.new.seat c.call_or_skip.result c.call_or_skip.ensures.calls c.call_or_skip.ensures.no_event c.call_or_skip.ensures.same c.call_or_skip.ensures.fault c.call_or_skip.ensures.err)
