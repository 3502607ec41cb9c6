use Rattle.gb_types.specs.Common.{arith, common_steps}
use Rattle.gb_slot.proofs.slot.copies.Goals as goal

pub loop-m-preserved : goal.loop-m-preserved
loop-m-preserved c = grind (arith, common_steps)

pub returns-clause-ok : goal.returns-clause-ok
returns-clause-ok c = grind (arith, common_steps)

pub returns-then-is_empty-clause-ok : goal.returns-then-is_empty-clause-ok
returns-then-is_empty-clause-ok c = grind (arith, common_steps)
