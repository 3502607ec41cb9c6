use Rattle.gb_types.specs.Common.{◌≡◌, false}
use Rattle.gb_host.specs.Common.{is_kept}
use Rattle.gb_worker.specs.Gained.{Gains}
use Rattle.gb_worker.specs.Ticks.{AreTicks}
use Rattle.gb_worker.proofs.ticker.ticker.Given as goal

abbrev pub invariant-loop-turn : goal.invariant-loop-turn
invariant-loop-turn g l = record {
  ticked : l.refused ≡ 0 → Gains (AreTicks l.host.here l.nodes l.turn 0) l.fn.seat.calls l.seat.calls;
  number : l.seat.number ≡ l.fn.seat.number;
  uncounted : is_kept g.L.Tapes.plan ≡ false → l.refused ≡ 0;
}

abbrev pub invariant-loop-node : goal.invariant-loop-node
invariant-loop-node g l = record {
  ticked : l.refused ≡ 0 → Gains (AreTicks l.host.here l.nodes l.turn l.node) l.fn.seat.calls l.seat.calls;
  number : l.seat.number ≡ l.fn.seat.number;
  uncounted : is_kept g.L.Tapes.plan ≡ false → l.refused ≡ 0;
}
