use Rattle.gb_types.specs.Common.{length, ap, sym, ◌∙◌}
use Rattle.gb_rules.specs.Common.{open_answer, done_reply}
use Rattle.gb_rules.specs.declared.phase.Phase.TheVariants.{Opened}
use Rattle.gb_types.specs.declared.reply.Reply.{Reply}
use Rattle.gb_slot.specs.Common.{slot_moved}
use Rattle.gb_table.specs.SlotsValue.{row_at}
use Rattle.gb_table.specs.AtAddress.{on_address}
use Rattle.gb_table.proofs.LivingLemmas.{reply_absent, reply_living, step_absent}
use Rattle.gb_table.proofs.SteppedLemmas.{stepped, quiet, keeps_moved, at_address, others_are, rows_in, slot_here, slot_there, lives_nowhere}
use Rattle.gb_table.proofs.UnchangedLemmas.{queue-moved}
use Rattle.gb_table.proofs.groups.Groups.open_group.Goals as goal

pub unreachable-requires : goal.unreachable-requires
unreachable-requires c = lives_nowhere c.args.addr c.self.inside c.args.self.now c.in-Some.place c.self.view_is c.in_default-key_at.ensures (sym c.in-Some.is ∙ c.find.ensures.place)

pub unreachable-requires-in_default-get_mut : goal.unreachable-requires-in_default-get_mut
unreachable-requires-in_default-get_mut c = slot_there c.self.inside c.in-Some.place c.in-Some-key_at.key c.self.invariant c.in-Some-key_at.ensures c.in_default-get_mut.ensures.value

pub invariant_of-self : goal.invariant_of-self
invariant_of-self c =
    let s = stepped (slot_moved Opened (done_reply c.open_group.result)) c.self.inside c.in-Some.place c.in-Some-key_at.key c.in-Some-get_mut.slot.now c.open_group.new.self c.self.invariant c.in-Some-key_at.ensures c.in-Some-get_mut.ensures.value c.open_group.ensures.state (keeps_moved Opened (done_reply c.open_group.result) c.in-Some-get_mut.slot.now) in
    let reply = done_reply c.open_group.result in
    (s.kept, quiet (slot_moved Opened reply) c.self.inside c.in-Some.place c.in-Some-key_at.key c.open_group.new.self c.self.invariant s (λ d. ap length (queue-moved d Opened reply (row_at (rows_in c.self.inside) c.in-Some.place))))

pub returns-clause-reply : goal.returns-clause-reply
returns-clause-reply c = c.replied.ensures ∙ c.open_group.ensures.answer ∙ reply_living open_answer c.args.addr c.args.self.now c.in-Some.place c.in-Some-get_mut.slot.now c.in-Some.ensures.at (slot_here c.self.inside c.args.self.now c.in-Some.place c.in-Some-key_at.key c.in-Some-get_mut.slot.now c.self.view_is c.in-Some-key_at.ensures c.in-Some-get_mut.ensures.value)

pub returns-clause-rows : goal.returns-clause-rows
returns-clause-rows c =
    let s = stepped (slot_moved Opened (done_reply c.open_group.result)) c.self.inside c.in-Some.place c.in-Some-key_at.key c.in-Some-get_mut.slot.now c.open_group.new.self c.self.invariant c.in-Some-key_at.ensures c.in-Some-get_mut.ensures.value c.open_group.ensures.state (keeps_moved Opened (done_reply c.open_group.result) c.in-Some-get_mut.slot.now) in
    at_address (slot_moved Opened (done_reply c.open_group.result)) c.args.addr c.self.inside c.args.self.now c.in-Some.place c.in-Some-key_at.key c.open_group.new.self c.self.view_is s c.in-Some.ensures.at
    ∙ ap (λ (r : Reply). on_address c.args.addr (slot_moved Opened r) c.args.self.now.rows) (sym c.replied.ensures)

pub returns-clause-others : goal.returns-clause-others
returns-clause-others c =
    let s = stepped (slot_moved Opened (done_reply c.open_group.result)) c.self.inside c.in-Some.place c.in-Some-key_at.key c.in-Some-get_mut.slot.now c.open_group.new.self c.self.invariant c.in-Some-key_at.ensures c.in-Some-get_mut.ensures.value c.open_group.ensures.state (keeps_moved Opened (done_reply c.open_group.result) c.in-Some-get_mut.slot.now) in
    others_are (slot_moved Opened (done_reply c.open_group.result)) c.args.addr c.self.inside c.args.self.now c.in-Some.place c.in-Some-key_at.key c.open_group.new.self c.self.view_is s c.in-Some.ensures.at

pub returns-in_default-clause-reply : goal.returns-in_default-clause-reply
returns-in_default-clause-reply c = c.absent.ensures ∙ reply_absent open_answer c.args.addr c.args.self.now (sym c.in_default.is ∙ c.find.ensures.place)

pub returns-in_default-clause-rows : goal.returns-in_default-clause-rows
returns-in_default-clause-rows c = step_absent (slot_moved Opened c.absent.result) c.args.addr c.args.self.now.rows (sym c.in_default.is ∙ c.find.ensures.place)
