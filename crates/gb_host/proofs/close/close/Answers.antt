use Rattle.gb_types.specs.Common.{rules}
use Rattle.gb_host.specs.Closing.{AreReplays, AreSame, list_at}
use Rattle.gb_host.proofs.ClosingLemmas.{closed_same, closed_entries, closed_fresh}
use Rattle.gb_host.proofs.close.close.Goals as goal

pub returns-in-Ok-None-clause-same : goal.returns-in-Ok-None-clause-same
returns-in-Ok-None-clause-same g c =
    let same : AreSame c.in-Ok-take_apart.closed.tapes.items (list_at c.in-Ok.lists.items) = search rules in
    closed_same c.in-Ok-take_apart.closed.tapes.items c.in-Ok.lists.items c.args.seats.items c.in-Ok.ensures.lists same

pub returns-in-Ok-None-clause-entries : goal.returns-in-Ok-None-clause-entries
returns-in-Ok-None-clause-entries g c =
    let same : AreSame c.in-Ok-take_apart.closed.tapes.items (list_at c.in-Ok.lists.items) = search rules in
    closed_entries c.in-Ok-take_apart.closed.tapes.items c.in-Ok.lists.items c.args.seats.items c.in-Ok.ensures.entries same

pub returns-in-Ok-None-clause-fresh : goal.returns-in-Ok-None-clause-fresh
returns-in-Ok-None-clause-fresh g c = λ on.
    let replays : AreReplays c.args.host.plan c.args.host.here c.args.host.plan.cluster.nodes c.in-Ok-take_apart.closed.nodes.items c.in-Ok-take_apart.closed.tapes.items = search rules in
    let same : AreSame c.in-Ok-take_apart.closed.tapes.items (list_at c.in-Ok.lists.items) = search rules in
    closed_fresh c.args.host.plan c.args.host.here c.in-Ok-take_apart.closed.nodes.items c.in-Ok-take_apart.closed.tapes.items c.in-Ok.lists.items c.args.seats.items on replays c.in-Ok.ensures.lists same
