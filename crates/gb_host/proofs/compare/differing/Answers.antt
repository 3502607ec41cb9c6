use Rattle.gb_host.specs.Closing.{list_at}
use Rattle.gb_host.proofs.CallLemmas.{misplaced_differs}
use Rattle.gb_host.proofs.compare.differing.Goals as goal

pub returns-in-Some-clause-some : goal.returns-in-Some-clause-some
returns-in-Some-clause-some c =
    let there = c.in-Some.ensures.some in
    misplaced_differs c.args.tapes.now c.in-Some.s there.0 (list_at c.args.lists.now c.in-Some.s) there.1 there.2
