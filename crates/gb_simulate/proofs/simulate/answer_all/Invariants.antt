use Rattle.gb_types.specs.Common.{ℕ, List, None, ◌-◌, IfSome}
use Rattle.gb_lines.specs.Buffered.{left}
use Rattle.gb_simulate.specs.Progress.{IsAt}
use Rattle.gb_simulate.specs.Schedule.{HasNodes}
use Rattle.gb_simulate.proofs.simulate.answer_all.Given as goal

-- the lines so far are answered
abbrev pub invariant-loop-cluster : goal.invariant-loop-cluster
invariant-loop-cluster g l = record {
  at : (input before : List ℕ) → IsAt input before l.initial.run.number None (left l.initial.run.lines (g.R.Read.remaining l.initial.reader)) (g.W.Write.contents l.initial.writer) l.initial.run.gathered.items
      → IsAt input before l.run.number l.cluster (left l.run.lines (g.R.Read.remaining l.reader)) (g.W.Write.contents l.writer) l.run.gathered.items;
  few : IfSome l.cluster HasNodes;
}

abbrev pub decreases-loop-cluster : goal.decreases-loop-cluster
decreases-loop-cluster g l = 1000001 - l.run.number
