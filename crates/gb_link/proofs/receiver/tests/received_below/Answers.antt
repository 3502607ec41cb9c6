use Rattle.gb_link.proofs.ReceivedLemmas.{IsReceiver-clear}
use Rattle.gb_link.proofs.receiver.tests.received_below.Goals as goal

pub invariant_of-result : goal.invariant_of-result
invariant_of-result c = IsReceiver-clear c.args.base c.requires.0 c.requires.1
