use Rattle.gb_types.specs.Common.{common_steps, arith}
use Rattle.gb_alone.proofs.member.page.Goals as goal

pub returns : goal.returns
returns c = grind (arith, common_steps)
