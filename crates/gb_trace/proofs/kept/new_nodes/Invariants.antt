use Rattle.gb_trace.specs.Kept.{IsNew}
use Rattle.gb_trace.proofs.KeptLemmas.{AllSoFar}
use Rattle.gb_trace.proofs.kept.new_nodes.Given as goal

abbrev pub invariant-loop : goal.invariant-loop
invariant-loop l = AllSoFar IsNew l.nodes.items l.counter
