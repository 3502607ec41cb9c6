use Rattle.gb_types.specs.Common.{arith}
use Rattle.gb_schedule.proofs.StepLemmas.{arrive_reads}
use Rattle.gb_schedule.proofs.grammar.read_arrive.Goals as goal

pub returns : goal.returns
returns c = arrive_reads c.args.text.now c.in_ok-packet.packet (omega arith) c.in_ok-packet.ensures.some
