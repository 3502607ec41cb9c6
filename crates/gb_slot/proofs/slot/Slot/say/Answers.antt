use Rattle.gb_types.specs.Common.{◌≡◌, ◌<◌, ◌≤◌, ◌+◌, ◌∷◌, ◌++◌, [], length, length-append, map, vec_capacity, arith, rules, refl, sym, ◌∙◌, ap, subst, length-map, message_of}
use Rattle.std.specs.FinSet as set
use Rattle.gb_layer.specs.Common.{Gives, messages, told}
use Rattle.gb_layer.specs.declared.call.Call.TheVariants.{Say}
use Rattle.gb_layer.specs.declared.placed_call.PlacedCall.TheVariants as placed
use Rattle.gb_stack.specs.{Layers.stack_of, Layers.StackKnows, StackState.stack_next, StackState.stack_gives}
use Rattle.gb_slot.specs.Outgoing.{messages_at}
use Rattle.gb_slot.specs.Reached.{IsReached, most_messages}
use Rattle.gb_slot.specs.SlotState.{SlotState}
use Rattle.gb_slot.specs.Slot.{own_entry, slot_said, taken_for}
use Rattle.gb_types.specs.declared.reply.Reply.TheVariants.{Said}
use Rattle.gb_slot.proofs.MemoryLemmas.{held, stack_stays, place_is_next, places_in_log, places_put_out, place_in_store, bytes_in_store, said_leads, still_enough, as_much}
use Rattle.gb_rules.specs.Common.{entry_in}
use Rattle.gb_slot.proofs.OutgoingLemmas.{messages_stay, places_stay}
use Rattle.gb_slot.proofs.PageLemmas.{some_rest}
use Rattle.gb_slot.proofs.PutOutLemmas.{said_sends}
use Rattle.gb_slot.proofs.ReachedLemmas.{own_unknown}
use Rattle.gb_slot.proofs.slot.Slot.say.Goals as goal

pub take_call-requires-clause-there : goal.take_call-requires-clause-there
take_call-requires-clause-there c = omega (arith, c.push-place.ensures.within, length-map c.push-place.new.self.entries message_of)

pub take_call-requires-clause-known : goal.take_call-requires-clause-known
take_call-requires-clause-known c =
    let s = c.self.inside in
    let next = said_leads s c.args.self.now c.usage.result c.args.payload.now c.self.view_is c.usage.ensures c.in_default.ensures.said c.in_default.ensures.bytes c.self.invariant.5 in
    let later = c.push-place.new.self.entries in
    let x = own_entry (held s) c.args.payload.now in
    let stays = stack_stays s.stack s.store.entries (x ∷ []) later (length s.store.entries) (most_messages s.spec) c.push-place.ensures.entries c.self.invariant.6.stack in
    record {
      count = length s.store.entries;
      memory = most_messages s.spec;
      knows = stays.1;
      next = place_is_next s (slot_said c.args.payload.now (Said (s.said + 1)) (held s)) c.push-place.result next refl (subst (λ es. c.push-place.result < length es) c.push-place.ensures.entries c.push-place.ensures.within) (omega (arith, c.push-place.ensures.place));
    }

pub take_call-requires-clause-log : goal.take_call-requires-clause-log
take_call-requires-clause-log c =
    let s = c.self.inside in
    let next = said_leads s c.args.self.now c.usage.result c.args.payload.now c.self.view_is c.usage.ensures c.in_default.ensures.said c.in_default.ensures.bytes c.self.invariant.5 in
    let later = c.push-place.new.self.entries in
    let x = own_entry (held s) c.args.payload.now in
    let stays = stack_stays s.stack s.store.entries (x ∷ []) later (length s.store.entries) (most_messages s.spec) c.push-place.ensures.entries c.self.invariant.6.stack in
    let given : stack_gives (stack_of (map message_of later) s.stack) (told (map message_of later) (placed.Say c.push-place.result)) ≡ stack_gives (held s).stack (Say (message_of x)) = λ i. stack_gives (stays.0 i) (Say (c.push-place.ensures.message i)) in
    subst (λ (g : Gives). length s.log.items + length g.ups ≤ vec_capacity s.log) (sym given) (places_in_log s (slot_said c.args.payload.now (Said (s.said + 1)) (held s)) _ c.self.invariant.6 next refl refl)

pub take_call-requires-clause-outgoing : goal.take_call-requires-clause-outgoing
take_call-requires-clause-outgoing c =
    let s = c.self.inside in
    let next = said_leads s c.args.self.now c.usage.result c.args.payload.now c.self.view_is c.usage.ensures c.in_default.ensures.said c.in_default.ensures.bytes c.self.invariant.5 in
    let later = c.push-place.new.self.entries in
    let x = own_entry (held s) c.args.payload.now in
    let stays = stack_stays s.stack s.store.entries (x ∷ []) later (length s.store.entries) (most_messages s.spec) c.push-place.ensures.entries c.self.invariant.6.stack in
    let given : stack_gives (stack_of (map message_of later) s.stack) (told (map message_of later) (placed.Say c.push-place.result)) ≡ stack_gives (held s).stack (Say (message_of x)) = λ i. stack_gives (stays.0 i) (Say (c.push-place.ensures.message i)) in
    subst (λ (g : Gives). length s.outgoing.items + length g.sends ≤ vec_capacity s.outgoing) (sym given) (places_put_out s (slot_said c.args.payload.now (Said (s.said + 1)) (held s)) _ c.self.invariant.6 next refl refl)

pub push-place-requires-clause-new : goal.push-place-requires-clause-new
push-place-requires-clause-new c = own_unknown (held c.self.inside) c.args.payload.now c.self.invariant.5

pub push-place-requires-clause-place : goal.push-place-requires-clause-place
push-place-requires-clause-place c =
    let s = c.self.inside in
    let next = said_leads s c.args.self.now c.usage.result c.args.payload.now c.self.view_is c.usage.ensures c.in_default.ensures.said c.in_default.ensures.bytes c.self.invariant.5 in
    place_in_store s (slot_said c.args.payload.now (Said (s.said + 1)) (held s)) (own_entry (held s) c.args.payload.now) c.self.invariant.6 next refl refl

pub push-place-requires-clause-bytes : goal.push-place-requires-clause-bytes
push-place-requires-clause-bytes c =
    let s = c.self.inside in
    let next = said_leads s c.args.self.now c.usage.result c.args.payload.now c.self.view_is c.usage.ensures c.in_default.ensures.said c.in_default.ensures.bytes c.self.invariant.5 in
    bytes_in_store s (slot_said c.args.payload.now (Said (s.said + 1)) (held s)) (own_entry (held s) c.args.payload.now) c.self.invariant.6 next refl refl

pub invariant_of-self : goal.invariant_of-self
invariant_of-self c =
    let s = c.self.inside in
    let m = c.self.invariant.6 in
    let next = said_leads s c.args.self.now c.usage.result c.args.payload.now c.self.view_is c.usage.ensures c.in_default.ensures.said c.in_default.ensures.bytes c.self.invariant.5 in
    let later = c.push-place.new.self.entries in
    let x = own_entry (held s) c.args.payload.now in
    let stays = stack_stays s.stack s.store.entries (x ∷ []) later (length s.store.entries) (most_messages s.spec) c.push-place.ensures.entries c.self.invariant.6.stack in
    let given : stack_gives (stack_of (map message_of later) s.stack) (told (map message_of later) (placed.Say c.push-place.result)) ≡ stack_gives (held s).stack (Say (message_of x)) = λ i. stack_gives (stays.0 i) (Say (c.push-place.ensures.message i)) in
    let called = c.take_call.ensures in
    let kept = c.push-place.ensures in
    let added = c.add_said-self-inside.ensures in
    let acknowledged = added.items ∙ ap (λ by. s.acknowledged.items ++ by ∷ []) (c.insert.ensures ∙ ap (λ by. set.insert by s.me.number) c.new-by.ensures) in
    let stay = messages_stay s.store.entries (x ∷ []) later s.outgoing.items kept.entries c.self.invariant.7 in
    let stack = called.meaning ∙ (λ i. stack_next (stays.0 i) (Say (kept.message i))) in
    let log = called.log ∙ ap (λ (g : Gives). s.log.items ++ messages g.ups) given in
    let put = called.outgoing ∙ (λ i. stay i ++ (given i).sends) in
    let place = place_is_next s (slot_said c.args.payload.now (Said (s.said + 1)) (held s)) c.push-place.result next refl (subst (λ es. c.push-place.result < length es) kept.entries kept.within) (omega (arith, kept.place)) in
    let is : slot_said c.args.payload.now (Said (s.said + 1)) (held s) ≡ record (held s) { stack = stack_of (map message_of later) c.take_call.new.stack; arrivals = c.push-place.new.self.arrivals; said = s.said + 1; store = later; log = c.take_call.new.log.items; outgoing = messages_at later c.take_call.new.outgoing.items; acknowledged = c.add_said-self-inside.new.acknowledged.items } =
    sym (λ i. record (held s) { stack = stack i; arrivals = kept.arrivals i; said = s.said + 1; store = kept.entries i; log = log i; outgoing = put i; acknowledged = acknowledged i }) in (
      search rules,
      c.self.invariant.1,
      c.self.invariant.2,
      search rules,
      search rules,
      subst IsReached is next,
      record {
        stack = subst (λ n. StackKnows (map message_of later) c.take_call.new.stack n (most_messages s.spec)) kept.reached (called.known (length s.store.entries) (most_messages s.spec) stays.1 place);
        log = as_much m.log called.log_memory;
        outgoing = as_much m.outgoing called.outgoing_memory;
        places = still_enough m.places kept.memory.0;
        bytes = still_enough m.bytes kept.memory.1;
        acknowledged = as_much m.acknowledged added.memory;
      },
      called.places (places_stay s.store.entries (x ∷ []) later s.outgoing.items kept.entries c.self.invariant.7),
    )

pub returns-clause-state : goal.returns-clause-state
returns-clause-state c =
    let s = c.self.inside in
    let later = c.push-place.new.self.entries in
    let x = own_entry (held s) c.args.payload.now in
    let stays = stack_stays s.stack s.store.entries (x ∷ []) later (length s.store.entries) (most_messages s.spec) c.push-place.ensures.entries c.self.invariant.6.stack in
    let given : stack_gives (stack_of (map message_of later) s.stack) (told (map message_of later) (placed.Say c.push-place.result)) ≡ stack_gives (held s).stack (Say (message_of x)) = λ i. stack_gives (stays.0 i) (Say (c.push-place.ensures.message i)) in
    let called = c.take_call.ensures in
    let kept = c.push-place.ensures in
    let acknowledged = c.add_said-self-inside.ensures.items ∙ ap (λ by. s.acknowledged.items ++ by ∷ []) (c.insert.ensures ∙ ap (λ by. set.insert by s.me.number) c.new-by.ensures) in
    let stay = messages_stay s.store.entries (x ∷ []) later s.outgoing.items kept.entries c.self.invariant.7 in
    let stack = called.meaning ∙ (λ i. stack_next (stays.0 i) (Say (kept.message i))) in
    let log = called.log ∙ ap (λ (g : Gives). s.log.items ++ messages g.ups) given in
    let put = called.outgoing ∙ (λ i. stay i ++ (given i).sends) in
    (λ i. record (held s) { stack = stack i; arrivals = kept.arrivals i; said = s.said + 1; store = kept.entries i; log = log i; outgoing = put i; acknowledged = acknowledged i })
    ∙ ap (λ (v : SlotState). slot_said c.args.payload.now (Said (v.said + 1)) v) c.self.view_is

pub returns-clause-put_out : goal.returns-clause-put_out
returns-clause-put_out c = λ b reached.
    let s = c.self.inside in
    let later = c.push-place.new.self.entries in
    let x = own_entry (held s) c.args.payload.now in
    let stays = stack_stays s.stack s.store.entries (x ∷ []) later (length s.store.entries) (most_messages s.spec) c.push-place.ensures.entries c.self.invariant.6.stack in
    let given : stack_gives (stack_of (map message_of later) s.stack) (told (map message_of later) (placed.Say c.push-place.result)) ≡ stack_gives (held s).stack (Say (message_of x)) = λ i. stack_gives (stays.0 i) (Say (c.push-place.ensures.message i)) in
    let now = c.take_call.new.outgoing.items in
    let before = s.outgoing.items in
    let sent = said_sends (held s) c.self.invariant.5.told c.args.payload.now c.self.invariant.5.stands in
    let stay = messages_stay s.store.entries (x ∷ []) later before c.push-place.ensures.entries c.self.invariant.7 in
    let grown = ap length (c.take_call.ensures.outgoing ∙ ap (λ (g : Gives). messages_at later before ++ g.sends) given) ∙ length-append (messages_at later before) _ in
    let left : taken_for (held s) b < length (messages_at later now) = omega (arith, sent, grown, ap length stay, c.self.invariant.5.stands.taken b) in
    some_rest (entry_in later) _ (taken_for (held s) b) (messages_at later now) reached left
