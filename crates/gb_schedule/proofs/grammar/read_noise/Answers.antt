use Rattle.gb_types.specs.Common.{common_steps, sym, arith}
use Rattle.gb_types.proofs.ReadLemmas.{words_are}
use Rattle.gb_schedule.proofs.RowLemmas.{noise_reads}
use Rattle.gb_schedule.proofs.grammar.read_noise.Goals as goal

pub returns : goal.returns
returns c =
    let read = rw (c.in-Some-2.is) at c.in_ok-bytes.ensures in
    noise_reads _ _ _ _ _ _ (words_are c.args.words.now _ 2 (omega arith)) c.in-Some.ensures (sym read)

pub returns-in_default : goal.returns-in_default
returns-in_default c = grind (arith, common_steps)

pub returns-in_default-read_node : goal.returns-in_default-read_node
returns-in_default-read_node c = grind (arith, common_steps)

pub returns-in_default-2 : goal.returns-in_default-2
returns-in_default-2 c = grind (arith, common_steps)
