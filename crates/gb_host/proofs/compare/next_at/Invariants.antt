use Rattle.gb_types.specs.Common.{◌≡◌, drop}
use Rattle.gb_host.specs.Calls.{calls_at}
use Rattle.gb_host.proofs.compare.next_at.Given as goal

abbrev pub invariant-loop-i : goal.invariant-loop-i
invariant-loop-i l = calls_at l.node (drop l.place l.list) ≡ calls_at l.node (drop l.i l.list)
