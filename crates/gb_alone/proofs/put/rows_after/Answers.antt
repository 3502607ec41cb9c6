use Rattle.gb_types.specs.Common.{arith}
use Rattle.gb_alone.proofs.ObservationLemmas.{map_more, map_none}
use Rattle.gb_alone.proofs.put.rows_after.Goals as goal

pub loop-b-init : goal.loop-b-init
loop-b-init c = grind (arith, map_none)

pub loop-b-preserved : goal.loop-b-preserved
loop-b-preserved c = grind (arith, map_more)
