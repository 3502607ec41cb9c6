use Rattle.gb_types.specs.Common.{length}
use Rattle.gb_alone.proofs.marks.+is_acknowledged.Given as goal

abbrev pub decreases-is_acknowledged : goal.decreases-is_acknowledged
decreases-is_acknowledged l = length l.put.now
