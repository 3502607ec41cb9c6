use Rattle.gb_types.specs.Common.{refl}
use Rattle.gb_worker.proofs.CallLemmas.{told}
use Rattle.gb_worker.proofs.session.DeskAnswers.answer.Goals as goal

pub returns : goal.returns
returns g c = (
  refl,
  refl,
  told g.L.Tapes.plan c.args.self.now.host.now.here c.args.self.now.seat.now c.call.new.seat c.args.self.now.node c.args.request c.call.result c.call.ensures.calls c.call.ensures.err c.call.ensures.fault c.reply_of.ensures.answered
      c.reply_of.ensures.fault,
)
