use Rattle.gb_types.specs.Common.{common_steps, arith}
use Rattle.gb_alone.proofs.put.add_copies.Goals as goal

pub loop-x-preserved : goal.loop-x-preserved
loop-x-preserved c = grind (arith, common_steps)

pub returns : goal.returns
returns c = grind (arith, common_steps)
