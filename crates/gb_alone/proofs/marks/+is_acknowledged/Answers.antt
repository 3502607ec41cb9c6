use Rattle.gb_types.specs.Common.{common_steps, arith}
use Rattle.gb_alone.proofs.marks.+is_acknowledged.Goals as goal

pub returns-in-empty : goal.returns-in-empty
returns-in-empty t c = grind (arith, common_steps)

pub returns-else-is_marked : goal.returns-else-is_marked
returns-else-is_marked t c = grind (arith, common_steps)
