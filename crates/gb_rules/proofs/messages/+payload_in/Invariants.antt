use Rattle.gb_types.specs.Common.{length}
use Rattle.gb_rules.proofs.messages.+payload_in.Given as goal

abbrev pub decreases-payload_in : goal.decreases-payload_in
decreases-payload_in l = length l.entries.now
