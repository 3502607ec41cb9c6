use Rattle.gb_types.specs.Common.{arith, common_steps}
use Rattle.gb_spelling.proofs.log_text.room_for.Goals as goal

pub loop-entry-preserved : goal.loop-entry-preserved
loop-entry-preserved c = grind (arith, common_steps)

pub returns : goal.returns
returns c = grind (arith, common_steps)
