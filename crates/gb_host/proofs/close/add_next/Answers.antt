use Rattle.gb_host.proofs.ClosingLemmas.{so_far_more}
use Rattle.gb_host.proofs.close.add_next.Goals as goal

pub returns-clause-so_far : goal.returns-clause-so_far
returns-clause-so_far g c = so_far_more g.L.Tapes.plan c.args.here.now c.in-Some.me c.contains.result c.args.closed.now c.add_place.new.closed c.add_place.result c.requires.so_far c.contains.ensures c.in-Some.ensures.0 c.add_place.ensures.placed c.add_place.ensures.capacity
