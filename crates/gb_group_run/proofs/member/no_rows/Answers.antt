use Rattle.gb_types.specs.Common.{common_steps, arith}
use Rattle.gb_group_run.proofs.member.no_rows.Goals as goal

pub all-preserved : goal.all-preserved
all-preserved c = grind (arith, common_steps)
