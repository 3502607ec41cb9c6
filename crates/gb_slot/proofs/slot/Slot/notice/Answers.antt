use Rattle.gb_types.specs.Common.{◌≡◌, true, length, map, rules, refl, sym, subst, message_of}
use Rattle.gb_rules.specs.Common.{is_other}
use Rattle.gb_stack.specs.Layers.{stack_of}
use Rattle.gb_slot.specs.Outgoing.{messages_at}
use Rattle.gb_slot.specs.Reached.{IsReached, most_messages}
use Rattle.gb_slot.proofs.MemoryLemmas.{held, places_in_log, places_put_out, as_much}
use Rattle.gb_slot.proofs.ReachedLemmas.{noticed_by, reached_noticed}
use Rattle.gb_slot.proofs.slot.Slot.notice.Goals as goal

pub take_call-requires-clause-known : goal.take_call-requires-clause-known
take_call-requires-clause-known c = record {
  count = length c.self.inside.store.entries;
  memory = most_messages c.self.inside.spec;
  knows = c.self.invariant.6.stack;
  next = tt;
}

pub take_call-requires-clause-log : goal.take_call-requires-clause-log
take_call-requires-clause-log c =
    let s = c.self.inside in
    let other : is_other s.spec s.me.number c.args.who.number ≡ true = search rules in
    let next = reached_noticed (held s) c.args.who other c.self.invariant.5 in
    places_in_log s (noticed_by c.args.who (held s)) _ c.self.invariant.6 next refl refl

pub take_call-requires-clause-outgoing : goal.take_call-requires-clause-outgoing
take_call-requires-clause-outgoing c =
    let s = c.self.inside in
    let other : is_other s.spec s.me.number c.args.who.number ≡ true = search rules in
    let next = reached_noticed (held s) c.args.who other c.self.invariant.5 in
    places_put_out s (noticed_by c.args.who (held s)) _ c.self.invariant.6 next refl refl

pub invariant_of-self : goal.invariant_of-self
invariant_of-self c =
    let s = c.self.inside in
    let other : is_other s.spec s.me.number c.args.who.number ≡ true = search rules in
    let next = reached_noticed (held s) c.args.who other c.self.invariant.5 in
    let m = c.self.invariant.6 in
    let called = c.take_call.ensures in
    let is : noticed_by c.args.who (held s) ≡ record (held s) { noticed = c.insert.new.self; stack = stack_of (map message_of s.store.entries) c.take_call.new.stack; log = c.take_call.new.log.items; outgoing = messages_at s.store.entries c.take_call.new.outgoing.items } =
    sym (λ i. record (held s) { noticed = c.insert.ensures i; stack = called.meaning i; log = called.log i; outgoing = called.outgoing i }) in (
      c.self.invariant.0,
      c.self.invariant.1,
      c.self.invariant.2,
      c.self.invariant.3,
      search rules,
      subst IsReached is next,
      record {
        stack = called.known (length s.store.entries) (most_messages s.spec) m.stack tt;
        log = as_much m.log called.log_memory;
        outgoing = as_much m.outgoing called.outgoing_memory;
        places = m.places;
        bytes = m.bytes;
        acknowledged = m.acknowledged;
      },
      called.places c.self.invariant.7,
    )
