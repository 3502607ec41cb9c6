use Rattle.gb_types.specs.Common.{length}
use Rattle.gb_rules.proofs.messages.+known.Given as goal

abbrev pub decreases-known : goal.decreases-known
decreases-known l = length l.told.now
