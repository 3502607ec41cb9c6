use Rattle.gb_types.specs.Common.{◌≡◌, Some, sym}
use Rattle.gb_node.specs.declared.answer.NodeAnswer.TheVariants as answers
use Rattle.gb_node.specs.declared.answer.Sent.TheVariants as sents
use Rattle.gb_worker.specs.Answered.{destination}
use Rattle.gb_worker.proofs.CarryLemmas.{carried_out}
use Rattle.gb_worker.proofs.pump.send_one.Goals as goal

pub returns-clause-carried : goal.returns-clause-carried
returns-clause-carried g c = λ none _.
    let m = c.in-Ok-Some.ensures.made none in
    let is : m.0 ≡ answers.Sent (sents.Packet c.in-Some-packet_of.text) = cc (m.1, c.in-Ok-Some.field-0-is, c.in-Ok-Some.answer-is, c.in-Some-packet_of.ensures.some) in
    let goes : destination c.args.event ≡ Some c.in-Some.to = sym c.in-Some.ensures in
    carried_out g.P.Port.sends g.P.Port.receives c.args.port.now c.send.new.self c.args.seat.now.calls c.make.new.seat.calls c.args.turn.now.me c.args.event c.in-Some.to m.0 c.in-Some-packet_of.text c.as_slice.result.now c.send.result goes is c.as_slice.ensures c.send.ensures.is m.2
