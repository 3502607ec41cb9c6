use Rattle.gb_types.specs.Common.{length}
use Rattle.gb_rules.proofs.call.+said_in.Given as goal

abbrev pub decreases-said_in : goal.decreases-said_in
decreases-said_in l = length l.told.now
