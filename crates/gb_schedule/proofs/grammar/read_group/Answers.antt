use Rattle.gb_schedule.proofs.RowLemmas.{group_reads}
use Rattle.gb_schedule.proofs.grammar.read_group.Goals as goal

pub returns : goal.returns
returns c = group_reads _ _ _ _ _ _ c.in_ok-node.ensures c.in_ok-address.ensures
