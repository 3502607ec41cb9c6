use Rattle.gb_types.specs.Common.{◌≡◌, ◌<◌, ◌++◌, min, length, get_or, ap, sym, subst, ◌∙◌, arith, Some, option_map, set}
use Rattle.gb_frame.specs.Common.{item_text, IsItem}
use Rattle.gb_slot.specs.Common.{slot_took, waiting, SlotState}
use Rattle.gb_types.specs.declared.limits.TheConstants.{PAYLOAD}
use Rattle.gb_table.specs.SlotsValue.{Row, row_at, on_slot, no_entry, IsShort}
use Rattle.gb_table.specs.GroupsValue.{GroupsValue}
use Rattle.gb_table.specs.Packing.{queue, queue_of, first_entry, item_of}
use Rattle.gb_table.proofs.SlotsLemmas.{short_is, slot_is}
use Rattle.gb_table.proofs.SteppedLemmas.{stepped, keeps_took, busy_there, given, slot_here, slot_there, nothing_there}
use Rattle.gb_table.proofs.groups.Groups.give.Goals as goal

pub unreachable-requires : goal.unreachable-requires
unreachable-requires c = let none = nothing_there c.self.inside c.args.self.now c.args.place c.args.dest.number c.self.view_is c.in_default.ensures in omega (arith, c.requires.item)

pub unreachable-requires-in_default-get_mut : goal.unreachable-requires-in_default-get_mut
unreachable-requires-in_default-get_mut c = slot_there c.self.inside c.args.place c.in-Some.key c.self.invariant c.in-Some.ensures c.in_default-get_mut.ensures.value

pub put_first-requires-clause-short : goal.put_first-requires-clause-short
put_first-requires-clause-short c = subst (IsShort PAYLOAD) (sym c.in-Some-get_mut.ensures.value) (short_is c.self.inside.slots c.self.inside.places.entries c.args.place c.in-Some.key c.self.invariant.0 c.in-Some.ensures)

pub put_first-requires-clause-item : goal.put_first-requires-clause-item
put_first-requires-clause-item c =
    let there = slot_here c.self.inside c.args.self.now c.args.place c.in-Some.key c.in-Some-get_mut.slot.now c.self.view_is c.in-Some.ensures c.in-Some-get_mut.ensures.value in
    let same = ap (λ o. length (queue_of c.args.dest.number o)) there in
    omega (arith, c.requires.item)

pub put_first-requires-clause-room : goal.put_first-requires-clause-room
put_first-requires-clause-room c =
    let there = slot_here c.self.inside c.args.self.now c.args.place c.in-Some.key c.in-Some-get_mut.slot.now c.self.view_is c.in-Some.ensures c.in-Some-get_mut.ensures.value in
    let same = ap (λ o. length (get_or (queue_of c.args.dest.number o) 0 no_entry).payload) there in
    omega (arith, c.requires.room)

pub took-requires : goal.took-requires
took-requires c =
    let there = slot_here c.self.inside c.args.self.now c.args.place c.in-Some.key c.in-Some-get_mut.slot.now c.self.view_is c.in-Some.ensures c.in-Some-get_mut.ensures.value in
    let same = ap (λ o. length (queue_of c.args.dest.number o)) there in
    omega (arith, c.requires.item)

pub returns-clause-len : goal.returns-clause-len
returns-clause-len c =
    let there = slot_here c.self.inside c.args.self.now c.args.place c.in-Some.key c.in-Some-get_mut.slot.now c.self.view_is c.in-Some.ensures c.in-Some-get_mut.ensures.value in
    let same = ap (λ o. length (get_or (queue_of c.args.dest.number o) 0 no_entry).payload) there in
    omega (arith, c.requires.room, c.put_first.ensures.len)

pub note_taken-requires : goal.note_taken-requires
note_taken-requires c =
    let within = ap (λ (v : GroupsValue). length v.rows) c.self.view_is in
    let some = subst (λ (v : GroupsValue). 0 < length (queue c.args.dest.number (row_at v.rows c.args.place))) (sym c.self.view_is) c.requires.item in
    busy_there c.self.inside c.args.dest c.args.place c.index.result c.index-self-index.result c.self.invariant c.index.ensures.value (omega (arith, c.requires.place)) some

pub invariant_of-self : goal.invariant_of-self
invariant_of-self c =
    let d = c.args.dest.number in
    let h = c.self.inside in
    let p = c.args.place in
    let v = c.in-Some-get_mut.slot.now in
    let s = stepped (slot_took d 1) h p c.in-Some.key v c.took.new.self c.self.invariant c.in-Some.ensures c.in-Some-get_mut.ensures.value c.took.ensures.state (keeps_took d v) in
    let here = c.note_taken.ensures.here ∙ ap (min 1) (c.waiting_for-left.ensures ∙ (ap (λ (t : SlotState). length (waiting t d)) c.took.ensures.state ∙ sym (ap (λ o. length (queue_of d (option_map (slot_took d 1) o))) (slot_is h.slots h.places.entries p c.in-Some.key v c.in-Some.ensures c.in-Some-get_mut.ensures.value)))) in
    (s.kept, given h c.args.dest p c.in-Some.key c.index.result c.took.new.self c.note_taken.new.set c.index-self-index.result c.self.invariant s c.index.ensures.value here c.note_taken.ensures.others c.note_taken.ensures.words)

pub returns-clause-rows : goal.returns-clause-rows
returns-clause-rows c =
    let f = slot_took c.args.dest.number 1 in
    let s = stepped f c.self.inside c.args.place c.in-Some.key c.in-Some-get_mut.slot.now c.took.new.self c.self.invariant c.in-Some.ensures c.in-Some-get_mut.ensures.value c.took.ensures.state (keeps_took c.args.dest.number c.in-Some-get_mut.slot.now) in
    s.rows ∙ ap (λ (v : GroupsValue). set v.rows c.args.place (on_slot f (row_at v.rows c.args.place))) c.self.view_is

pub returns-clause-written : goal.returns-clause-written
returns-clause-written c =
    let there = slot_here c.self.inside c.args.self.now c.args.place c.in-Some.key c.in-Some-get_mut.slot.now c.self.view_is c.in-Some.ensures c.in-Some-get_mut.ensures.value in
    let is : row_at c.args.self.now.rows c.args.place ≡ record { addr = c.addr-addr.result; slot = Some c.in-Some-get_mut.slot.now } = λ i. record { addr = sym c.addr-addr.ensures i; slot = there i } in
    c.put_first.ensures.written ∙ ap (λ (r : Row). c.args.out.now.items ++ item_text c.args.version (item_of r (first_entry c.args.dest.number r))) (sym is)

pub returns-clause-fits : goal.returns-clause-fits
returns-clause-fits c =
    let there = slot_here c.self.inside c.args.self.now c.args.place c.in-Some.key c.in-Some-get_mut.slot.now c.self.view_is c.in-Some.ensures c.in-Some-get_mut.ensures.value in
    let is : row_at c.args.self.now.rows c.args.place ≡ record { addr = c.addr-addr.result; slot = Some c.in-Some-get_mut.slot.now } = λ i. record { addr = sym c.addr-addr.ensures i; slot = there i } in
    subst (λ (r : Row). IsItem c.args.version (item_of r (first_entry c.args.dest.number r))) (sym is) c.put_first.ensures.fits
