use Rattle.gb_trace.specs.Kept.{IsBare}
use Rattle.gb_trace.proofs.KeptLemmas.{AllSoFar}
use Rattle.gb_trace.proofs.links.new_links.Given as goal

abbrev pub invariant-loop : goal.invariant-loop
invariant-loop l = AllSoFar IsBare l.links.items l.counter
