use Rattle.gb_types.specs.Common.{common_steps, arith}
use Rattle.gb_alone.proofs.member.Member.cut.Goals as goal

pub returns-else-at-len : goal.returns-else-at-len
returns-else-at-len c = grind (arith, common_steps)
