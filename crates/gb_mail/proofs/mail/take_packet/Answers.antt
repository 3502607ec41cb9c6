use Rattle.gb_types.specs.Common.{ℕ, List, inr, subst}
use Rattle.gb_mail.specs.Mailed.{IsTakenOrNot}
use Rattle.gb_mail.proofs.PacketLemmas.{taken_or_not}
use Rattle.gb_mail.proofs.mail.take_packet.Goals as goal

pub returns-in-Ok-clause-taken : goal.returns-in-Ok-clause-taken
returns-in-Ok-clause-taken g c =
    subst (λ (bytes : List ℕ). IsTakenOrNot g.L.Tapes.plan c.args.node bytes c.args.seat.now c.ask.new.seat c.args.lost.now c.args.lost.now) c.from.ensures
    (taken_or_not c.pasts_say.ensures g.L.Tapes.plan c.args.node c.from.result c.args.seat.now c.ask.new.seat c.in-Ok.answer c.args.lost.now c.in-Ok.ensures.answer)

pub returns-clause-taken : goal.returns-clause-taken
returns-clause-taken g c = inr (inr (c.count_lost.ensures, c.in-Err.ensures.answer.1))
