use Rattle.gb_types.specs.Common.{arith}
use Rattle.gb_types.proofs.ReadLemmas.{found}
use Rattle.gb_schedule.proofs.RowLemmas.{between_reads}
use Rattle.gb_schedule.proofs.grammar.read_silence.Goals as goal

pub returns : goal.returns
returns c = between_reads c.args.word.now c.in_ok-silence.silence _ _ _ _ c.from.ensures c.from-2.ensures c.in_ok-silence.ensures

pub overflow_cast-result : goal.overflow_cast-result
overflow_cast-result c = let read = found _ c.in_ok-silence.silence c.in_ok-silence.ensures in omega arith
