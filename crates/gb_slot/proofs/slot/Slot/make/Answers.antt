use Rattle.gb_types.specs.Common.{◌≡◌, ◌∙◌, List, [], length, map, ap, refl, rules, sym, subst, replicate, message_of}
use Rattle.gb_types.specs.declared.{limits.TheConstants.NODES, entry.Entry.Entry}
use Rattle.gb_rules.specs.declared.phase.Phase.TheVariants.{Made}
use Rattle.gb_stack.specs.Layers.{stack_of, StackKnows}
use Rattle.gb_slot.specs.Outgoing.{messages_at, AreInStore}
use Rattle.gb_slot.specs.Reached.{IsReached, most_messages}
use Rattle.gb_slot.specs.Slot.{new_slot}
use Rattle.gb_slot.specs.SlotState.{SlotState}
use Rattle.gb_slot.proofs.ReachedLemmas.{reached_new}
use Rattle.gb_slot.proofs.slot.Slot.make.Goals as goal

pub invariant_of-result : goal.invariant_of-result
invariant_of-result c =
    let spec = c.args.spec in
    let made = c.in_ok-stack.ensures in
    let kept = c.in_ok-store.ensures in
    let state : SlotState = record {
      spec = spec;
      me = c.args.me;
      phase = Made;
      noticed = c.duplicate.result;
      stack = stack_of (map message_of c.in_ok-store.store.entries) c.in_ok-stack.stack;
      arrivals = c.in_ok-store.store.arrivals;
      said = 0;
      store = c.in_ok-store.store.entries;
      log = c.in_ok-store.log.items;
      outgoing = messages_at c.in_ok-store.store.entries c.in_ok-store.outgoing.items;
      taken = replicate NODES 0;
      acknowledged = c.in_ok-store.acknowledged.items;
    } in
    let stack = ap (λ (es : List Entry). stack_of (map message_of es) c.in_ok-stack.stack) kept.store.0 ∙ made.meaning in
    let is : state ≡ new_slot spec c.args.me c.args.noticed.now = λ i. record state {
      noticed = c.duplicate.ensures i;
      stack = stack i;
      arrivals = kept.store.1 i;
      store = kept.store.0 i;
      log = kept.log i;
      outgoing = messages_at (kept.store.0 i) (kept.outgoing i);
      acknowledged = kept.acknowledged i;
    } in
    let reached = reached_new spec c.args.me c.args.noticed.now (stack_of [] c.in_ok-stack.stack) c.requires.member c.nodes.ensures.whole made.started in (
      search rules,
      search rules,
      search rules,
      search rules,
      search rules,
      subst IsReached (sym is) reached,
      record {
        stack = subst (λ (es : List Entry). StackKnows (map message_of es) c.in_ok-stack.stack (length es) (most_messages spec)) (sym kept.store.0) made.known;
        log = kept.log_memory;
        outgoing = kept.outgoing_memory;
        places = kept.places;
        bytes = kept.bytes;
        acknowledged = kept.acknowledged_memory;
      },
      subst (AreInStore c.in_ok-store.store.entries) (sym kept.outgoing) refl,
    )
