use Rattle.gb_types.specs.Common.{◌≡◌}
use Rattle.gb_worker.specs.Answered.{stops_in}
use Rattle.gb_worker.specs.Carried.{HasCarried}
use Rattle.gb_worker.specs.Ended.{IsUncounted}
use Rattle.gb_worker.specs.Gained.{Gains}
use Rattle.gb_worker.specs.Turns.{SendsAll}
use Rattle.gb_worker.proofs.pump.send_all.Given as goal

abbrev pub invariant-loop-number : goal.invariant-loop-number
invariant-loop-number g l = record {
  sent : l.refused ≡ 0 → Gains (SendsAll l.turn.number l.turn.me l.heard l.number) l.fn.seat.calls l.seat.calls;
  carried : l.refused ≡ 0 → HasCarried g.P.Port.sends g.P.Port.receives l.fn.port l.port l.fn.seat.calls l.seat.calls;
  counts : l.refused ≡ 0 → l.fn.refused ≡ 0;
  same : l.seat.number ≡ l.fn.seat.number;
  uncounted : IsUncounted g.L.Tapes.plan l.turn.host.now.here l.turn.me → l.refused ≡ l.fn.refused;
  stops : stops_in l.seat.calls ≡ stops_in l.fn.seat.calls;
}
