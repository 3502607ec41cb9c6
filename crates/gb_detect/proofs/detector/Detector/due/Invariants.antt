use Rattle.gb_types.specs.Common.{◌≡◌}
use Rattle.gb_detect.specs.Watch.{nodes_where, is_due}
use Rattle.gb_detect.proofs.detector.Detector.due.Given as goal

abbrev pub invariant-loop-number : goal.invariant-loop-number
invariant-loop-number l = l.found ≡ nodes_where l.number (is_due l.self)
