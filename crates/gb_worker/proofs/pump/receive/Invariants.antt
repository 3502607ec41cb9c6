use Rattle.gb_types.specs.Common.{◌≡◌}
use Rattle.gb_worker.specs.Answered.{stops_in}
use Rattle.gb_worker.specs.Carried.{HasCarried}
use Rattle.gb_worker.specs.Ended.{IsUncounted}
use Rattle.gb_worker.specs.Gained.{Gains}
use Rattle.gb_worker.specs.Turns.{HasReceived}
use Rattle.gb_worker.proofs.pump.receive.Given as goal

abbrev pub invariant-loop-i : goal.invariant-loop-i
invariant-loop-i g l = record {
  received : l.refused ≡ 0 → Gains (HasReceived l.turn.me l._i l.heard) l.fn.seat.calls l.seat.calls;
  carried : l.refused ≡ 0 → HasCarried g.P.Port.sends g.P.Port.receives l.fn.port l.port l.fn.seat.calls l.seat.calls;
  counts : l.refused ≡ 0 → l.fn.refused ≡ 0;
  number : l.seat.number ≡ l.fn.seat.number;
  uncounted : IsUncounted g.L.Tapes.plan l.turn.host.now.here l.turn.me → l.refused ≡ l.fn.refused;
  stops : stops_in l.seat.calls ≡ stops_in l.fn.seat.calls;
}
