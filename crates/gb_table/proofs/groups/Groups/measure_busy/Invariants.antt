use Rattle.gb_types.specs.Common.{◌≤◌, ◌<◌, ◌+◌, ◌*◌, length}
use Rattle.gb_table.specs.Packing.{queues, walk, fit}
use Rattle.gb_table.specs.Ahead.{ahead, IsActive}
use Rattle.gb_table.specs.PlaceSet.{IsSummary}
use Rattle.gb_table.proofs.AheadLemmas.{Measured}
use Rattle.gb_table.proofs.groups.Groups.measure_busy.Given as goal

abbrev pub invariant-loop-round : goal.invariant-loop-round
invariant-loop-round g l =
    let waiting = queues l.dest.number l.self.rows in
    record {
      within : l.at ≤ length l.self.rows;
      begun : l.at < l.from → 0 < l.lap;
      laps : l.lap + l.left ≤ l.room;
      few : 9 * l.count + l.left ≤ l.room;
      summary : IsSummary l.active l.summary;
      index : IsActive l.active (ahead l.from l.lap l.at 0 waiting);
      same : Measured l.fn.version l.room l.left l.count (walk l.at (ahead l.from l.lap l.at 0 waiting)) (fit l.fn.version l.room (walk l.from waiting));
    }

abbrev pub decreases-loop-round : goal.decreases-loop-round
decreases-loop-round g l = l.left
