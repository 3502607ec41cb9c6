use Rattle.gb_types.specs.Common.{refl}
use Rattle.gb_schedule.proofs.keys.Keys.member.Goals as goal

pub returns-in-Some : goal.returns-in-Some
returns-in-Some c = c.in-Some.ensures c.args.node refl
