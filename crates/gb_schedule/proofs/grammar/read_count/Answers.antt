use Rattle.gb_types.specs.Common.{refl, arith}
use Rattle.gb_types.proofs.ReadLemmas.{found}
use Rattle.gb_schedule.proofs.RowLemmas.{between_reads}
use Rattle.gb_schedule.proofs.grammar.read_count.Goals as goal

pub returns : goal.returns
returns c = between_reads c.args.word.now c.in_ok-count.count _ _ _ _ refl c.from.ensures c.in_ok-count.ensures

pub overflow_cast-result : goal.overflow_cast-result
overflow_cast-result c = let read = found _ c.in_ok-count.count c.in_ok-count.ensures in omega arith
