use Rattle.gb_trace.proofs.KeptFrameLemmas.{CoversUpTo}
use Rattle.gb_trace.proofs.frames.cover.Given as goal

abbrev pub invariant-loop-i : goal.invariant-loop-i
invariant-loop-i l = CoversUpTo l.base l.mask l.count l.i l.fn.acked.items l.acked.items
