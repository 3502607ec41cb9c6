use Rattle.gb_types.specs.Common.{common_steps, arith}
use Rattle.gb_alone.proofs.member.copied_replies.Goals as goal

pub loop-reply-preserved : goal.loop-reply-preserved
loop-reply-preserved c = grind (arith, common_steps)

pub returns : goal.returns
returns c = grind (arith, common_steps)
