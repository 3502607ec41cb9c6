use Rattle.gb_types.specs.Common.{length}
use Rattle.gb_door.proofs.words.+are_named.Given as goal

abbrev pub decreases-are_named : goal.decreases-are_named
decreases-are_named l = length l.origins.now
