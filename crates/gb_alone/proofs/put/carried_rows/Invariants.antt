use Rattle.gb_types.specs.Common.{◌≡◌, map}
use Rattle.gb_alone.specs.MemberLists.{carried_row}
use Rattle.gb_alone.specs.Observation.{numbers_below}
use Rattle.gb_alone.proofs.put.carried_rows.Given as goal

abbrev pub invariant-loop-b : goal.invariant-loop-b
invariant-loop-b l = l.rows.items ≡ map (carried_row l.taken l.put) (numbers_below l.b)
