use Rattle.gb_types.specs.Common.{arith, common_steps}
use Rattle.gb_lines.proofs.lines.move_to_front.Goals as goal

pub returns-else-start-gt0-clause-items : goal.returns-else-start-gt0-clause-items
returns-else-start-gt0-clause-items c = grind (arith, common_steps)
