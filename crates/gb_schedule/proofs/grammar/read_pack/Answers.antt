use Rattle.gb_schedule.proofs.StepLemmas.{pack_reads, pack_none}
use Rattle.gb_schedule.proofs.grammar.read_pack.Goals as goal

pub returns-in_err-node : goal.returns-in_err-node
returns-in_err-node c = rw c.from_residual.ensures (pack_none c.args.nodes c.args.text.now c.in_err-node.ensures.none)

pub returns : goal.returns
returns c = pack_reads c.args.nodes c.args.text.now c.in_ok-node.node c.in_ok-node.to c.in_ok-node.ensures.some
