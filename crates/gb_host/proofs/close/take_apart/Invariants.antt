use Rattle.gb_host.specs.Placed.{AreSoFar}
use Rattle.gb_host.proofs.close.take_apart.Given as goal

abbrev pub invariant-loop-place : goal.invariant-loop-place
invariant-loop-place g l = AreSoFar g.L.Tapes.plan l.here l.closed
