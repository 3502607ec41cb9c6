use Rattle.gb_merge.proofs.GoingLemmas.{arrival_is, blocked_is}
use Rattle.gb_merge.proofs.weave.event_of.Goals as goal

pub returns-in-Some-number : goal.returns-in-Some-number
returns-in-Some-number c = arrival_is c.args.reader.now c.args.sent.now c.args.a c.in-Some-number.number c.args.event.now c.in-Some.bytes.now c.in-Some.ensures.0 c.in-Some.ensures.1 c.in-Some-number.ensures

pub returns-in-None : goal.returns-in-None
returns-in-None c = blocked_is c.args.reader.now c.args.sent.now c.args.a c.args.event.now c.in-Some.bytes.now c.in-Some.ensures.0 c.in-Some.ensures.1 c.in-None.ensures
