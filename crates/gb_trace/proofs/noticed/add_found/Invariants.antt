use Rattle.gb_types.specs.Common.{◌≡◌, ◌++◌}
use Rattle.std.specs.FinSet as set
use Rattle.gb_trace.proofs.NoticesLemmas.{notices_below}
use Rattle.gb_trace.proofs.noticed.add_found.Given as goal

abbrev pub invariant-loop-b : goal.invariant-loop-b
invariant-loop-b l = l.steps.items ≡ l.fn.steps.items ++ notices_below l.a l.spec (set.contains l.found) l.b
