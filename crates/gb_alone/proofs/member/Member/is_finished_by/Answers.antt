use Rattle.gb_types.specs.Common.{common_steps, arith}
use Rattle.gb_alone.proofs.member.Member.is_finished_by.Goals as goal

pub returns-else-is_noticed : goal.returns-else-is_noticed
returns-else-is_noticed c = grind (arith, common_steps)
