use Rattle.gb_types.specs.Common.{◌≤◌, ◌-◌}
use Rattle.std.specs.Io.KnownBytes.{Keeps}
use Rattle.gb_lines.specs.Buffered.{left}
use Rattle.gb_lines.proofs.lines.LineBuffer.next.Given as goal

-- no line is found yet, so no byte was lost
abbrev pub invariant-loop-next : goal.invariant-loop-next
invariant-loop-next g l = record {
  kept : Keeps (left l.initial.self (g.R.Read.remaining l.initial.reader)) (left l.self (g.R.Read.remaining l.reader));
  reads : l.initial.self.reads ≤ l.self.reads;
}

abbrev pub decreases-loop-next : goal.decreases-loop-next
decreases-loop-next g l = 64000000 - l.self.reads
