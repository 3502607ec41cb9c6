use Rattle.gb_types.specs.Common.{length}
use Rattle.gb_rules.proofs.messages.+bytes_of.Given as goal

abbrev pub decreases-bytes_of : goal.decreases-bytes_of
decreases-bytes_of l = length l.entries.now
