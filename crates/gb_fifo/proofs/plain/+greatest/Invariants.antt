use Rattle.gb_types.specs.Common.{length}
use Rattle.gb_fifo.proofs.plain.+greatest.Given as goal

abbrev pub decreases-greatest : goal.decreases-greatest
decreases-greatest l = length l.delivered.now
