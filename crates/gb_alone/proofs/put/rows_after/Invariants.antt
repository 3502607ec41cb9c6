use Rattle.gb_types.specs.Common.{◌≡◌, map}
use Rattle.gb_alone.specs.MemberLists.{row_with}
use Rattle.gb_alone.specs.Observation.{numbers_below}
use Rattle.gb_alone.proofs.put.rows_after.Given as goal

abbrev pub invariant-loop-b : goal.invariant-loop-b
invariant-loop-b l = l.rows.items ≡ map (row_with l.spec l.me.number l.told l.put l.more) (numbers_below l.b)
