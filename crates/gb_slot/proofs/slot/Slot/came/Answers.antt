use Rattle.gb_types.specs.Common.{Bool, ◌≡◌, ◌≢◌, ◌<◌, ◌≤◌, ◌+◌, ◌++◌, length, length-append, map, vec_capacity, refl, sym, ◌∙◌, ap, subst, arith, nat_tests, length-map, message_of, if◌then◌else◌}
use Rattle.gb_types.specs.declared.entry.Entry.{Entry}
use Rattle.gb_layer.specs.Common.{Gives, messages, told}
use Rattle.gb_layer.specs.declared.call.Call.TheVariants.{Came}
use Rattle.gb_layer.specs.declared.placed_call.PlacedCall.TheVariants as placed
use Rattle.gb_stack.specs.{Layers.stack_of, Layers.StackKnows, StackState.stack_next, StackState.stack_gives}
use Rattle.gb_rules.specs.Common.{with_new, entry_in}
use Rattle.gb_slot.specs.Outgoing.{messages_at}
use Rattle.gb_slot.specs.Reached.{IsReached, most_messages}
use Rattle.gb_slot.specs.Slot.{slot_called, slot_came, taken_for}
use Rattle.gb_slot.proofs.MemoryLemmas.{held, stack_stays, place_is_next, places_in_log, places_put_out, place_in_store, bytes_in_store, item_stays, new_known, still_enough, as_much}
use Rattle.gb_slot.proofs.OutgoingLemmas.{messages_count, messages_stay, places_stay, grown_new}
use Rattle.gb_slot.proofs.PageLemmas.{same_rest, some_rest}
use Rattle.gb_slot.proofs.ReachedLemmas.{reached_came, kept_item}
use Rattle.gb_slot.proofs.slot.Slot.came.Goals as goal

pub take_call-requires-clause-there : goal.take_call-requires-clause-there
take_call-requires-clause-there c = omega (arith, c.take_in-place.ensures.within, length-map c.take_in-place.new.self.entries message_of)

pub take_call-requires-clause-known : goal.take_call-requires-clause-known
take_call-requires-clause-known c =
    let s = c.self.inside in
    let x : Entry = record { origin = c.args.origin; seq = c.args.seq; payload = c.args.payload.now } in
    let stay = item_stays s c.args.from x c.is_let_fall.result c.known_from-known.result.1 c.is_some.result c.bytes_of.result c.is_let_fall.ensures.test c.if-is_let_fall.false c.known_from-known.ensures.taken (c.is_some.ensures ∙ c.known_from-known.ensures.entries) c.bytes_of.ensures in
    let next = reached_came (held s) c.args.from x stay c.self.invariant.5 in
    let later = c.take_in-place.new.self.entries in
    let new = grown_new s.store.entries x in
    let is_grown = c.take_in-place.ensures.entries ∙ new.1 in
    let stays = stack_stays s.stack s.store.entries new.0 later (length s.store.entries) (most_messages s.spec) is_grown c.self.invariant.6.stack in
    record {
      count = length s.store.entries;
      memory = most_messages s.spec;
      knows = stays.1;
      next = place_is_next s (slot_called (Came c.args.from (message_of x)) (with_new s.store.entries x) (held s)) c.take_in-place.result next refl (subst (λ es. c.take_in-place.result < length es) c.take_in-place.ensures.entries c.take_in-place.ensures.within) c.take_in-place.ensures.place;
    }

pub take_call-requires-clause-log : goal.take_call-requires-clause-log
take_call-requires-clause-log c =
    let s = c.self.inside in
    let x : Entry = record { origin = c.args.origin; seq = c.args.seq; payload = c.args.payload.now } in
    let stay = item_stays s c.args.from x c.is_let_fall.result c.known_from-known.result.1 c.is_some.result c.bytes_of.result c.is_let_fall.ensures.test c.if-is_let_fall.false c.known_from-known.ensures.taken (c.is_some.ensures ∙ c.known_from-known.ensures.entries) c.bytes_of.ensures in
    let next = reached_came (held s) c.args.from x stay c.self.invariant.5 in
    let later = c.take_in-place.new.self.entries in
    let new = grown_new s.store.entries x in
    let is_grown = c.take_in-place.ensures.entries ∙ new.1 in
    let stays = stack_stays s.stack s.store.entries new.0 later (length s.store.entries) (most_messages s.spec) is_grown c.self.invariant.6.stack in
    let given : stack_gives (stack_of (map message_of later) s.stack) (told (map message_of later) (placed.Came c.args.from c.take_in-place.result)) ≡ stack_gives (held s).stack (Came c.args.from (message_of x)) = λ i. stack_gives (stays.0 i) (Came c.args.from (c.take_in-place.ensures.message i)) in
    subst (λ (g : Gives). length s.log.items + length g.ups ≤ vec_capacity s.log) (sym given) (places_in_log s (slot_called (Came c.args.from (message_of x)) (with_new s.store.entries x) (held s)) _ c.self.invariant.6 next refl refl)

pub take_call-requires-clause-outgoing : goal.take_call-requires-clause-outgoing
take_call-requires-clause-outgoing c =
    let s = c.self.inside in
    let x : Entry = record { origin = c.args.origin; seq = c.args.seq; payload = c.args.payload.now } in
    let stay = item_stays s c.args.from x c.is_let_fall.result c.known_from-known.result.1 c.is_some.result c.bytes_of.result c.is_let_fall.ensures.test c.if-is_let_fall.false c.known_from-known.ensures.taken (c.is_some.ensures ∙ c.known_from-known.ensures.entries) c.bytes_of.ensures in
    let next = reached_came (held s) c.args.from x stay c.self.invariant.5 in
    let later = c.take_in-place.new.self.entries in
    let new = grown_new s.store.entries x in
    let is_grown = c.take_in-place.ensures.entries ∙ new.1 in
    let stays = stack_stays s.stack s.store.entries new.0 later (length s.store.entries) (most_messages s.spec) is_grown c.self.invariant.6.stack in
    let given : stack_gives (stack_of (map message_of later) s.stack) (told (map message_of later) (placed.Came c.args.from c.take_in-place.result)) ≡ stack_gives (held s).stack (Came c.args.from (message_of x)) = λ i. stack_gives (stays.0 i) (Came c.args.from (c.take_in-place.ensures.message i)) in
    subst (λ (g : Gives). length s.outgoing.items + length g.sends ≤ vec_capacity s.outgoing) (sym given) (places_put_out s (slot_called (Came c.args.from (message_of x)) (with_new s.store.entries x) (held s)) _ c.self.invariant.6 next refl refl)

pub returns-clause-state : goal.returns-clause-state
returns-clause-state c =
    let s = c.self.inside in
    let x : Entry = record { origin = c.args.origin; seq = c.args.seq; payload = c.args.payload.now } in
    let stay = item_stays s c.args.from x c.is_let_fall.result c.known_from-known.result.1 c.is_some.result c.bytes_of.result c.is_let_fall.ensures.test c.if-is_let_fall.false c.known_from-known.ensures.taken (c.is_some.ensures ∙ c.known_from-known.ensures.entries) c.bytes_of.ensures in
    let later = c.take_in-place.new.self.entries in
    let new = grown_new s.store.entries x in
    let is_grown = c.take_in-place.ensures.entries ∙ new.1 in
    let stays = stack_stays s.stack s.store.entries new.0 later (length s.store.entries) (most_messages s.spec) is_grown c.self.invariant.6.stack in
    let given : stack_gives (stack_of (map message_of later) s.stack) (told (map message_of later) (placed.Came c.args.from c.take_in-place.result)) ≡ stack_gives (held s).stack (Came c.args.from (message_of x)) = λ i. stack_gives (stays.0 i) (Came c.args.from (c.take_in-place.ensures.message i)) in
    let called = c.take_call.ensures in
    let kept = c.take_in-place.ensures in
    let same = messages_stay s.store.entries new.0 later s.outgoing.items is_grown c.self.invariant.7 in
    let stack = called.meaning ∙ (λ i. stack_next (stays.0 i) (Came c.args.from (kept.message i))) in
    let log = called.log ∙ ap (λ (g : Gives). s.log.items ++ messages g.ups) given in
    let put = called.outgoing ∙ (λ i. same i ++ (given i).sends) in
    (λ i. record (held s) { stack = stack i; arrivals = kept.arrivals i; store = kept.entries i; log = log i; outgoing = put i })
    ∙ (sym (ap (λ (b : Bool). if b then held s else slot_called (Came c.args.from (message_of x)) (with_new s.store.entries x) (held s)) stay)
    ∙ ap (slot_came c.args.from x) c.self.view_is)

pub returns-clause-put_out : goal.returns-clause-put_out
returns-clause-put_out c = λ some b reached.
    let more : c.len.result ≢ c.len-count.result = grind (arith, nat_tests, some) in
    let s = c.self.inside in
    let x : Entry = record { origin = c.args.origin; seq = c.args.seq; payload = c.args.payload.now } in
    let later = c.take_in-place.new.self.entries in
    let new = grown_new s.store.entries x in
    let is_grown = c.take_in-place.ensures.entries ∙ new.1 in
    let stays = stack_stays s.stack s.store.entries new.0 later (length s.store.entries) (most_messages s.spec) is_grown c.self.invariant.6.stack in
    let now = c.take_call.new.outgoing.items in
    let before = s.outgoing.items in
    let same = messages_stay s.store.entries new.0 later before is_grown c.self.invariant.7 in
    let grown = ap length c.take_call.ensures.outgoing ∙ length-append (messages_at later before) _ in
    let left : taken_for (held s) b < length (messages_at later now) = omega (arith, more, grown, ap length same, c.self.invariant.5.stands.taken b, messages_count later now, messages_count s.store.entries before) in
    some_rest (entry_in later) _ (taken_for (held s) b) (messages_at later now) reached left

pub returns-clause-unchanged : goal.returns-clause-unchanged
returns-clause-unchanged c = λ unchanged dest.
    let same : c.len.result ≡ c.len-count.result = grind (arith, nat_tests, unchanged) in
    let s = c.self.inside in
    let later = c.take_in-place.new.self.entries in
    let now = c.take_call.new.outgoing.items in
    let before = s.outgoing.items in
    let count : length (messages_at later now) ≡ length (messages_at s.store.entries before) = omega (arith, same, messages_count later now, messages_count s.store.entries before) in
    rw (← c.self.view_is) (same_rest (entry_in later) (entry_in s.store.entries) _ _ (messages_at later now) (messages_at s.store.entries before) count)

pub take_in-place-requires-clause-place : goal.take_in-place-requires-clause-place
take_in-place-requires-clause-place c = λ new.
    let s = c.self.inside in
    let x : Entry = record { origin = c.args.origin; seq = c.args.seq; payload = c.args.payload.now } in
    let stay = item_stays s c.args.from x c.is_let_fall.result c.known_from-known.result.1 c.is_some.result c.bytes_of.result c.is_let_fall.ensures.test c.if-is_let_fall.false c.known_from-known.ensures.taken (c.is_some.ensures ∙ c.known_from-known.ensures.entries) c.bytes_of.ensures in
    let next = reached_came (held s) c.args.from x stay c.self.invariant.5 in
    place_in_store s (slot_called (Came c.args.from (message_of x)) (with_new s.store.entries x) (held s)) x c.self.invariant.6 next refl (new_known s.store.entries x new)

pub take_in-place-requires-clause-bytes : goal.take_in-place-requires-clause-bytes
take_in-place-requires-clause-bytes c = λ new.
    let s = c.self.inside in
    let x : Entry = record { origin = c.args.origin; seq = c.args.seq; payload = c.args.payload.now } in
    let stay = item_stays s c.args.from x c.is_let_fall.result c.known_from-known.result.1 c.is_some.result c.bytes_of.result c.is_let_fall.ensures.test c.if-is_let_fall.false c.known_from-known.ensures.taken (c.is_some.ensures ∙ c.known_from-known.ensures.entries) c.bytes_of.ensures in
    let next = reached_came (held s) c.args.from x stay c.self.invariant.5 in
    bytes_in_store s (slot_called (Came c.args.from (message_of x)) (with_new s.store.entries x) (held s)) x c.self.invariant.6 next refl (new_known s.store.entries x new)

pub take_in-place-requires-clause-limit : goal.take_in-place-requires-clause-limit
take_in-place-requires-clause-limit c = λ new.
    let s = c.self.inside in
    let x : Entry = record { origin = c.args.origin; seq = c.args.seq; payload = c.args.payload.now } in
    let test = sym c.is_let_fall.ensures.test in
    let facts = kept_item s.spec s.me.number c.args.from.number x c.known_from-known.result.1 c.is_some.result c.bytes_of.result (test ∙ c.if-is_let_fall.false) in
    let enough = facts.2 ((c.is_some.ensures ∙ c.known_from-known.ensures.entries) ∙ new) in
    let most = c.self.invariant.2 in
    let seen = c.bytes_of.ensures in
    omega (arith, enough, most, seen)

pub invariant_of-self : goal.invariant_of-self
invariant_of-self c =
    let s = c.self.inside in
    let x : Entry = record { origin = c.args.origin; seq = c.args.seq; payload = c.args.payload.now } in
    let stay = item_stays s c.args.from x c.is_let_fall.result c.known_from-known.result.1 c.is_some.result c.bytes_of.result c.is_let_fall.ensures.test c.if-is_let_fall.false c.known_from-known.ensures.taken (c.is_some.ensures ∙ c.known_from-known.ensures.entries) c.bytes_of.ensures in
    let next = reached_came (held s) c.args.from x stay c.self.invariant.5 in
    let later = c.take_in-place.new.self.entries in
    let new = grown_new s.store.entries x in
    let is_grown = c.take_in-place.ensures.entries ∙ new.1 in
    let stays = stack_stays s.stack s.store.entries new.0 later (length s.store.entries) (most_messages s.spec) is_grown c.self.invariant.6.stack in
    let given : stack_gives (stack_of (map message_of later) s.stack) (told (map message_of later) (placed.Came c.args.from c.take_in-place.result)) ≡ stack_gives (held s).stack (Came c.args.from (message_of x)) = λ i. stack_gives (stays.0 i) (Came c.args.from (c.take_in-place.ensures.message i)) in
    let m = c.self.invariant.6 in
    let called = c.take_call.ensures in
    let kept = c.take_in-place.ensures in
    let same = messages_stay s.store.entries new.0 later s.outgoing.items is_grown c.self.invariant.7 in
    let stack = called.meaning ∙ (λ i. stack_next (stays.0 i) (Came c.args.from (kept.message i))) in
    let log = called.log ∙ ap (λ (g : Gives). s.log.items ++ messages g.ups) given in
    let put = called.outgoing ∙ (λ i. same i ++ (given i).sends) in
    let place = place_is_next s (slot_called (Came c.args.from (message_of x)) (with_new s.store.entries x) (held s)) c.take_in-place.result next refl (subst (λ es. c.take_in-place.result < length es) c.take_in-place.ensures.entries c.take_in-place.ensures.within) c.take_in-place.ensures.place in
    let is : (slot_called (Came c.args.from (message_of x)) (with_new s.store.entries x) (held s)) ≡ record (held s) { stack = stack_of (map message_of later) c.take_call.new.stack; arrivals = c.take_in-place.new.self.arrivals; store = later; log = c.take_call.new.log.items; outgoing = messages_at later c.take_call.new.outgoing.items } =
    sym (λ i. record (held s) { stack = stack i; arrivals = kept.arrivals i; store = kept.entries i; log = log i; outgoing = put i }) in (
      c.self.invariant.0,
      c.self.invariant.1,
      c.self.invariant.2,
      c.self.invariant.3,
      c.self.invariant.4,
      subst IsReached is next,
      record {
        stack = subst (λ n. StackKnows (map message_of later) c.take_call.new.stack n (most_messages s.spec)) kept.reached (called.known (length s.store.entries) (most_messages s.spec) stays.1 place);
        log = as_much m.log called.log_memory;
        outgoing = as_much m.outgoing called.outgoing_memory;
        places = still_enough m.places kept.memory.0;
        bytes = still_enough m.bytes kept.memory.1;
        acknowledged = m.acknowledged;
      },
      called.places (places_stay s.store.entries new.0 later s.outgoing.items is_grown c.self.invariant.7),
    )
