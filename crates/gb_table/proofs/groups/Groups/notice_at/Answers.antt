use Rattle.gb_types.specs.Common.{ap, ◌∙◌, set}
use Rattle.gb_slot.specs.Common.{slot_noticed}
use Rattle.gb_table.specs.SlotsValue.{row_at, on_slot}
use Rattle.gb_table.specs.GroupsValue.{GroupsValue}
use Rattle.gb_table.proofs.LivingLemmas.{step_gone}
use Rattle.gb_table.proofs.SteppedLemmas.{stepped, noted, word_there, keeps_noticed, slot_gone, slot_there}
use Rattle.gb_table.proofs.groups.Groups.notice_at.Goals as goal

pub unreachable-requires : goal.unreachable-requires
unreachable-requires c = slot_there c.self.inside c.args.place c.in-Some.key c.self.invariant c.in-Some.ensures c.in_default-get_mut.ensures.value

pub note_members-requires-clause-size : goal.note_members-requires-clause-size
note_members-requires-clause-size c = c.self.invariant.1.index.size

pub note_members-requires-clause-words : goal.note_members-requires-clause-words
note_members-requires-clause-words c = word_there (slot_noticed c.args.who) c.self.inside c.args.place c.in-Some.key c.notice.new.self c.self.invariant (stepped (slot_noticed c.args.who) c.self.inside c.args.place c.in-Some.key c.in-Some-get_mut.slot.now c.notice.new.self c.self.invariant c.in-Some.ensures c.in-Some-get_mut.ensures.value c.notice.ensures.state (keeps_noticed c.args.who c.in-Some-get_mut.slot.now))

pub invariant_of-self : goal.invariant_of-self
invariant_of-self c =
    let s = stepped (slot_noticed c.args.who) c.self.inside c.args.place c.in-Some.key c.in-Some-get_mut.slot.now c.notice.new.self c.self.invariant c.in-Some.ensures c.in-Some-get_mut.ensures.value c.notice.ensures.state (keeps_noticed c.args.who c.in-Some-get_mut.slot.now) in
    (s.kept, noted (slot_noticed c.args.who) c.self.inside c.args.place c.in-Some.key c.notice.new.self c.note_members.new.busy c.self.invariant s c.note_members.ensures)

pub returns-clause-rows : goal.returns-clause-rows
returns-clause-rows c =
    (stepped (slot_noticed c.args.who) c.self.inside c.args.place c.in-Some.key c.in-Some-get_mut.slot.now c.notice.new.self c.self.invariant c.in-Some.ensures c.in-Some-get_mut.ensures.value c.notice.ensures.state (keeps_noticed c.args.who c.in-Some-get_mut.slot.now)).rows ∙ ap (λ (v : GroupsValue). set v.rows c.args.place (on_slot (slot_noticed c.args.who) (row_at v.rows c.args.place))) c.self.view_is

pub returns-in_default-clause-rows : goal.returns-in_default-clause-rows
returns-in_default-clause-rows c = step_gone (slot_noticed c.args.who) c.args.self.now.rows c.args.place (slot_gone c.self.inside c.args.self.now c.args.place c.self.view_is c.in_default.ensures)
