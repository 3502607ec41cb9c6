use Rattle.gb_types.specs.Common.{ap, sym, ◌∙◌, set}
use Rattle.gb_types.specs.declared.entry.Entry.{Entry}
use Rattle.gb_frame.specs.Common.{address_of}
use Rattle.gb_frame.specs.Packet.{item_of as view_item}
use Rattle.gb_rules.proofs.LengthLemmas.{within_greatest}
use Rattle.gb_slot.specs.Common.{slot_came}
use Rattle.gb_slot.proofs.SpecLemmas.{reaches-came}
use Rattle.gb_table.specs.SlotsValue.{row_at, on_slot}
use Rattle.gb_table.specs.GroupsValue.{GroupsValue}
use Rattle.gb_table.proofs.AddressLemmas.{item_is}
use Rattle.gb_table.proofs.LivingLemmas.{gone_absent, item_absent}
use Rattle.gb_table.proofs.SlotsLemmas.{slot_is}
use Rattle.gb_table.proofs.StepLemmas.{many-came}
use Rattle.gb_table.proofs.SteppedLemmas.{stepped, quiet, put_out, word_there, keeps_came, others_are, rows_in, slot_gone, slot_there}
use Rattle.gb_table.proofs.groups.Groups.item.Goals as goal

pub unreachable-requires : goal.unreachable-requires
unreachable-requires c = slot_there c.self.inside c.in-Some-place_of.place c.in-Some-key_at.key c.self.invariant c.in-Some-key_at.ensures c.in_default-get_mut.ensures.value

pub note_reached-requires-clause-size : goal.note_reached-requires-clause-size
note_reached-requires-clause-size c = c.self.invariant.1.index.size

pub note_reached-requires-clause-words : goal.note_reached-requires-clause-words
note_reached-requires-clause-words c =
    let x : Entry = record { origin = c.in-Some.origin; seq = c.args.item.seq; payload = c.args.item.payload.now } in
    let s = stepped (slot_came c.args.from x) c.self.inside c.in-Some-place_of.place c.in-Some-key_at.key c.in-Some-get_mut.slot.now c.came.new.self c.self.invariant c.in-Some-key_at.ensures c.in-Some-get_mut.ensures.value c.came.ensures.state (keeps_came c.args.from x c.in-Some-get_mut.slot.now (within_greatest c.args.version c.args.item.payload.now (sym c.is_too_long.ensures ∙ c.if-is_too_long.false))) in
    word_there (slot_came c.args.from x) c.self.inside c.in-Some-place_of.place c.in-Some-key_at.key c.came.new.self c.self.invariant s

pub invariant_of-self : goal.invariant_of-self
invariant_of-self c =
    let x : Entry = record { origin = c.in-Some.origin; seq = c.args.item.seq; payload = c.args.item.payload.now } in
    let s = stepped (slot_came c.args.from x) c.self.inside c.in-Some-place_of.place c.in-Some-key_at.key c.in-Some-get_mut.slot.now c.came.new.self c.self.invariant c.in-Some-key_at.ensures c.in-Some-get_mut.ensures.value c.came.ensures.state (keeps_came c.args.from x c.in-Some-get_mut.slot.now (within_greatest c.args.version c.args.item.payload.now (sym c.is_too_long.ensures ∙ c.if-is_too_long.false))) in
    (s.kept, put_out (slot_came c.args.from x) c.self.inside c.in-Some-place_of.place c.in-Some-key_at.key c.came.new.self c.note_reached.new.busy c.self.invariant s (reaches-came c.args.from x) (c.came.ensures.put_out c.if-came.true) c.note_reached.ensures)

pub invariant_of-self-else-came : goal.invariant_of-self-else-came
invariant_of-self-else-came c =
    let x : Entry = record { origin = c.in-Some.origin; seq = c.args.item.seq; payload = c.args.item.payload.now } in
    let s = stepped (slot_came c.args.from x) c.self.inside c.in-Some-place_of.place c.in-Some-key_at.key c.in-Some-get_mut.slot.now c.came.new.self c.self.invariant c.in-Some-key_at.ensures c.in-Some-get_mut.ensures.value c.came.ensures.state (keeps_came c.args.from x c.in-Some-get_mut.slot.now (within_greatest c.args.version c.args.item.payload.now (sym c.is_too_long.ensures ∙ c.if-is_too_long.false))) in
    let h = c.self.inside in
    let p = c.in-Some-place_of.place in
    let v = c.in-Some-get_mut.slot.now in
    (s.kept, quiet (slot_came c.args.from x) h p c.in-Some-key_at.key c.came.new.self c.self.invariant s (λ d. many-came c.args.from x (row_at (rows_in h) p) v c.came.new.self d (slot_is h.slots h.places.entries p c.in-Some-key_at.key v c.in-Some-key_at.ensures c.in-Some-get_mut.ensures.value) c.came.ensures.state (c.came.ensures.unchanged c.if-came.false d)))

pub returns-then-came-clause-rows : goal.returns-then-came-clause-rows
returns-then-came-clause-rows c =
    let x : Entry = record { origin = c.in-Some.origin; seq = c.args.item.seq; payload = c.args.item.payload.now } in
    let s = stepped (slot_came c.args.from x) c.self.inside c.in-Some-place_of.place c.in-Some-key_at.key c.in-Some-get_mut.slot.now c.came.new.self c.self.invariant c.in-Some-key_at.ensures c.in-Some-get_mut.ensures.value c.came.ensures.state (keeps_came c.args.from x c.in-Some-get_mut.slot.now (within_greatest c.args.version c.args.item.payload.now (sym c.is_too_long.ensures ∙ c.if-is_too_long.false))) in
    let f = slot_came c.args.from x in
    s.rows ∙ (ap (λ (v : GroupsValue). set v.rows c.in-Some-place_of.place (on_slot f (row_at v.rows c.in-Some-place_of.place))) c.self.view_is
    ∙ item_is c.args.version c.args.from c.in-Some.origin (view_item c.args.item) c.args.self.now.rows c.in-Some-place_of.place c.in-Some.ensures.some (sym c.is_too_long.ensures ∙ c.if-is_too_long.false) c.in-Some-place_of.ensures.place)

pub returns-then-came-clause-others : goal.returns-then-came-clause-others
returns-then-came-clause-others c =
    let x : Entry = record { origin = c.in-Some.origin; seq = c.args.item.seq; payload = c.args.item.payload.now } in
    let s = stepped (slot_came c.args.from x) c.self.inside c.in-Some-place_of.place c.in-Some-key_at.key c.in-Some-get_mut.slot.now c.came.new.self c.self.invariant c.in-Some-key_at.ensures c.in-Some-get_mut.ensures.value c.came.ensures.state (keeps_came c.args.from x c.in-Some-get_mut.slot.now (within_greatest c.args.version c.args.item.payload.now (sym c.is_too_long.ensures ∙ c.if-is_too_long.false))) in
    others_are (slot_came c.args.from x) (address_of (view_item c.args.item)) c.self.inside c.args.self.now c.in-Some-place_of.place c.in-Some-key_at.key c.came.new.self c.self.view_is s c.in-Some-place_of.ensures.place

pub returns-else-came-clause-rows : goal.returns-else-came-clause-rows
returns-else-came-clause-rows c =
    let x : Entry = record { origin = c.in-Some.origin; seq = c.args.item.seq; payload = c.args.item.payload.now } in
    let s = stepped (slot_came c.args.from x) c.self.inside c.in-Some-place_of.place c.in-Some-key_at.key c.in-Some-get_mut.slot.now c.came.new.self c.self.invariant c.in-Some-key_at.ensures c.in-Some-get_mut.ensures.value c.came.ensures.state (keeps_came c.args.from x c.in-Some-get_mut.slot.now (within_greatest c.args.version c.args.item.payload.now (sym c.is_too_long.ensures ∙ c.if-is_too_long.false))) in
    let f = slot_came c.args.from x in
    s.rows ∙ (ap (λ (v : GroupsValue). set v.rows c.in-Some-place_of.place (on_slot f (row_at v.rows c.in-Some-place_of.place))) c.self.view_is
    ∙ item_is c.args.version c.args.from c.in-Some.origin (view_item c.args.item) c.args.self.now.rows c.in-Some-place_of.place c.in-Some.ensures.some (sym c.is_too_long.ensures ∙ c.if-is_too_long.false) c.in-Some-place_of.ensures.place)

pub returns-else-came-clause-others : goal.returns-else-came-clause-others
returns-else-came-clause-others c =
    let x : Entry = record { origin = c.in-Some.origin; seq = c.args.item.seq; payload = c.args.item.payload.now } in
    let s = stepped (slot_came c.args.from x) c.self.inside c.in-Some-place_of.place c.in-Some-key_at.key c.in-Some-get_mut.slot.now c.came.new.self c.self.invariant c.in-Some-key_at.ensures c.in-Some-get_mut.ensures.value c.came.ensures.state (keeps_came c.args.from x c.in-Some-get_mut.slot.now (within_greatest c.args.version c.args.item.payload.now (sym c.is_too_long.ensures ∙ c.if-is_too_long.false))) in
    others_are (slot_came c.args.from x) (address_of (view_item c.args.item)) c.self.inside c.args.self.now c.in-Some-place_of.place c.in-Some-key_at.key c.came.new.self c.self.view_is s c.in-Some-place_of.ensures.place

pub returns-in_default-key_at-clause-rows : goal.returns-in_default-key_at-clause-rows
returns-in_default-key_at-clause-rows c =
    let i = view_item c.args.item in
    item_absent c.args.version c.args.from i c.args.self.now.rows (gone_absent (address_of i) c.args.self.now.rows c.in-Some-place_of.place c.in-Some-place_of.ensures.place (slot_gone c.self.inside c.args.self.now c.in-Some-place_of.place c.self.view_is c.in_default-key_at.ensures))
