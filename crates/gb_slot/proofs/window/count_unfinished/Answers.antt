use Rattle.gb_types.specs.Common.{common_steps, arith}
use Rattle.gb_slot.proofs.window.count_unfinished.Goals as goal

pub loop-by-preserved : goal.loop-by-preserved
loop-by-preserved c = grind (arith, common_steps)

pub returns : goal.returns
returns c = grind (arith, common_steps)
