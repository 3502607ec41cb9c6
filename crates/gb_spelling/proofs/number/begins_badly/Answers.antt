use Rattle.gb_types.specs.Common.{arith, common_steps}
use Rattle.gb_spelling.proofs.number.begins_badly.Goals as goal

pub returns-in-empty : goal.returns-in-empty
returns-in-empty c = grind (arith, common_steps)
