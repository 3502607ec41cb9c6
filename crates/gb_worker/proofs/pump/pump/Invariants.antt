use Rattle.gb_types.specs.Common.{◌≡◌}
use Rattle.gb_worker.specs.Answered.{stops_in}
use Rattle.gb_worker.specs.Carried.{HasCarried}
use Rattle.gb_worker.specs.Ended.{IsUncounted}
use Rattle.gb_worker.specs.Gained.{Gains}
use Rattle.gb_worker.specs.Turns.{AreTurns}
use Rattle.gb_worker.proofs.pump.pump.Given as goal

abbrev pub invariant-loop-made : goal.invariant-loop-made
invariant-loop-made g l = record {
  turned : l.refused ≡ 0 → Gains (AreTurns l.node l.nodes l.made) l.fn.seat.calls l.seat.calls;
  carried : l.refused ≡ 0 → HasCarried g.P.Port.sends g.P.Port.receives l.fn.port l.port l.fn.seat.calls l.seat.calls;
  same : l.seat.number ≡ l.fn.seat.number;
  uncounted : IsUncounted g.L.Tapes.plan l.host.here l.node → l.refused ≡ 0;
  stops : stops_in l.seat.calls ≡ stops_in l.fn.seat.calls;
}
