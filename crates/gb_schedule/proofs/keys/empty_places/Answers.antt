use Rattle.gb_types.specs.Common.{common_steps, arith}
use Rattle.gb_schedule.proofs.keys.empty_places.Goals as goal

pub returns-in-Ok : goal.returns-in-Ok
returns-in-Ok c = grind (arith, common_steps)
