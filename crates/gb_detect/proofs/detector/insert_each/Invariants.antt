use Rattle.gb_types.specs.Common.{◌≡◌}
use Rattle.std.specs.FinSet as set
use Rattle.gb_detect.specs.Watch.{nodes_where}
use Rattle.gb_detect.proofs.detector.insert_each.Given as goal

abbrev pub invariant-loop-number : goal.invariant-loop-number
invariant-loop-number l = l.all ≡ set.union l.initial.all (nodes_where l.number (set.contains l.more))
