use Rattle.gb_trace.proofs.KeptLemmas.{TicksUpTo}
use Rattle.gb_trace.proofs.links.tick_all.Given as goal

abbrev pub invariant-loop-i : goal.invariant-loop-i
invariant-loop-i l = TicksUpTo l.silence l.i l.fn.links.items l.links.items
