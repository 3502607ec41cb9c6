use Rattle.gb_table.specs.SlotsValue.{no_entry, row_at}
use Rattle.gb_types.specs.declared.limits.TheConstants.{PAYLOAD}
use Rattle.gb_table.proofs.StepLemmas.{waiting_bytes, waiting_fits}
use Rattle.gb_table.proofs.groups.Groups.measure_at.Goals as goal

pub returns-clause-short : goal.returns-clause-short
returns-clause-short c = waiting_fits PAYLOAD c.in-Some.slot.now c.args.dest.number c.args.nth _ c.in-Some.ensures.short c.peek_at.ensures

pub returns-clause-bytes : goal.returns-clause-bytes
returns-clause-bytes c = waiting_bytes c.args.dest.number c.args.nth (row_at c.args.self.now.rows c.args.place) c.in-Some.slot.now _ no_entry c.in-Some.ensures.slot c.peek_at.ensures
