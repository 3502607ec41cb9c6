use Rattle.gb_types.specs.Common.{length}
use Rattle.gb_door.proofs.asked.+is_welcome.Given as goal

abbrev pub decreases-is_welcome : goal.decreases-is_welcome
decreases-is_welcome l = length l.spans.now
