use Rattle.gb_trace.specs.Kept.{IsFront}
use Rattle.gb_trace.proofs.frames.front_of.Given as goal

abbrev pub invariant-loop-i : goal.invariant-loop-i
invariant-loop-i l = IsFront l.acked l.i
