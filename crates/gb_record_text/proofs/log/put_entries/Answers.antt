use Rattle.gb_types.specs.Common.{arith, common_steps}
use Rattle.gb_record_text.proofs.log.put_entries.Goals as goal

pub loop-entry-preserved : goal.loop-entry-preserved
loop-entry-preserved c = grind (arith, common_steps)
