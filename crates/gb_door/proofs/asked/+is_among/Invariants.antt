use Rattle.gb_types.specs.Common.{length}
use Rattle.gb_door.proofs.asked.+is_among.Given as goal

abbrev pub decreases-is_among : goal.decreases-is_among
decreases-is_among l = length l.origins.now
