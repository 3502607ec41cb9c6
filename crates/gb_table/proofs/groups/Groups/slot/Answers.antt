use Rattle.gb_table.proofs.SlotsLemmas.{short_is, short_seen}
use Rattle.gb_table.proofs.groups.Groups.slot.Goals as goal

pub returns-clause-short : goal.returns-clause-short
returns-clause-short c = short_seen c.get.result _ c.get.ensures (short_is c.self.inside.slots c.self.inside.places.entries c.args.place c.in-Some.key c.self.invariant.0 c.in-Some.ensures)
