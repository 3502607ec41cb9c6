use Rattle.gb_table.proofs.GroupLemmas.{each_group, each_count, stay_in_order}
use Rattle.gb_table.proofs.each.each_group.Goals as goal

pub returns-clause-each : goal.returns-clause-each
returns-clause-each c = each_group

pub returns-clause-count : goal.returns-clause-count
returns-clause-count c = each_count

pub returns-clause-order : goal.returns-clause-order
returns-clause-order c = stay_in_order
