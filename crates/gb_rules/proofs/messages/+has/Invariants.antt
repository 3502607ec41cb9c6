use Rattle.gb_types.specs.Common.{length}
use Rattle.gb_rules.proofs.messages.+has.Given as goal

abbrev pub decreases-has : goal.decreases-has
decreases-has l = length l.entries.now
