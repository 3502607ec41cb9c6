use Rattle.gb_types.specs.Common.{arith}
use Rattle.gb_link.proofs.ReceivedLemmas.{covered_none, IsReceiver-clear}
use Rattle.gb_link.proofs.receiver.Receiver.new.Goals as goal

pub invariant_of-result : goal.invariant_of-result
invariant_of-result c = IsReceiver-clear 1 (omega arith) (omega arith)

pub returns : goal.returns
returns c = covered_none
