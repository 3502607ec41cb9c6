use Rattle.gb_types.specs.Common.{ap, length}
use Rattle.gb_slot.specs.Common.{slot_done}
use Rattle.gb_table.specs.SlotsValue.{row_at}
use Rattle.gb_table.proofs.LivingLemmas.{gone_absent, step_absent}
use Rattle.gb_table.proofs.SteppedLemmas.{stepped, quiet, keeps_done, at_address, others_are, rows_in, slot_gone, slot_there}
use Rattle.gb_table.proofs.UnchangedLemmas.{queue-done}
use Rattle.gb_table.proofs.groups.Groups.done.Goals as goal

pub unreachable-requires : goal.unreachable-requires
unreachable-requires c = slot_there c.self.inside c.in-Some.place c.in-Some-key_at.key c.self.invariant c.in-Some-key_at.ensures c.in_default-get_mut.ensures.value

pub invariant_of-self : goal.invariant_of-self
invariant_of-self c =
    let s = stepped (slot_done c.args.dest c.args.m) c.self.inside c.in-Some.place c.in-Some-key_at.key c.in-Some-get_mut.slot.now c.done.new.self c.self.invariant c.in-Some-key_at.ensures c.in-Some-get_mut.ensures.value c.done.ensures.state (keeps_done c.args.dest c.args.m c.in-Some-get_mut.slot.now) in
    (s.kept, quiet (slot_done c.args.dest c.args.m) c.self.inside c.in-Some.place c.in-Some-key_at.key c.done.new.self c.self.invariant s (λ d. ap length (queue-done d c.args.dest c.args.m (row_at (rows_in c.self.inside) c.in-Some.place))))

pub returns-clause-rows : goal.returns-clause-rows
returns-clause-rows c = at_address (slot_done c.args.dest c.args.m) c.args.addr c.self.inside c.args.self.now c.in-Some.place c.in-Some-key_at.key c.done.new.self c.self.view_is (stepped (slot_done c.args.dest c.args.m) c.self.inside c.in-Some.place c.in-Some-key_at.key c.in-Some-get_mut.slot.now c.done.new.self c.self.invariant c.in-Some-key_at.ensures c.in-Some-get_mut.ensures.value c.done.ensures.state (keeps_done c.args.dest c.args.m c.in-Some-get_mut.slot.now)) c.in-Some.ensures.place

pub returns-clause-others : goal.returns-clause-others
returns-clause-others c = others_are (slot_done c.args.dest c.args.m) c.args.addr c.self.inside c.args.self.now c.in-Some.place c.in-Some-key_at.key c.done.new.self c.self.view_is (stepped (slot_done c.args.dest c.args.m) c.self.inside c.in-Some.place c.in-Some-key_at.key c.in-Some-get_mut.slot.now c.done.new.self c.self.invariant c.in-Some-key_at.ensures c.in-Some-get_mut.ensures.value c.done.ensures.state (keeps_done c.args.dest c.args.m c.in-Some-get_mut.slot.now)) c.in-Some.ensures.place

pub returns-in_default-key_at-clause-rows : goal.returns-in_default-key_at-clause-rows
returns-in_default-key_at-clause-rows c =
    step_absent (slot_done c.args.dest c.args.m) c.args.addr c.args.self.now.rows (gone_absent c.args.addr c.args.self.now.rows c.in-Some.place c.in-Some.ensures.place (slot_gone c.self.inside c.args.self.now c.in-Some.place c.self.view_is c.in_default-key_at.ensures))
