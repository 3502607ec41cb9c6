use Rattle.gb_types.specs.Common.{length}
use Rattle.gb_rules.proofs.call.+calls_of.Given as goal

abbrev pub decreases-calls_of : goal.decreases-calls_of
decreases-calls_of l = length l.told.now
