use Rattle.gb_types.specs.Common.{◌≡◌, ◌+◌, ◌≤◌, length, sym, subst, arith, slice_index_or, slice_set}
use Rattle.gb_slot.specs.Reached.{IsReached}
use Rattle.gb_slot.specs.Slot.{waiting, slot_took}
use Rattle.gb_slot.specs.SlotState.{SlotState}
use Rattle.gb_slot.proofs.MemoryLemmas.{held, few_put, few_wait}
use Rattle.gb_slot.proofs.ReachedLemmas.{reached_took}
use Rattle.gb_slot.proofs.slot.Slot.took.Goals as goal

pub overflow_add-taken : goal.overflow_add-taken
overflow_add-taken c =
    let s = c.self.inside in
    let few = few_wait s c.args.self.now c.args.dest.number c.index.result c.self.view_is c.index.ensures.value c.self.invariant.5 in
    let put = few_put s c.self.invariant.5 c.self.invariant.1 in
    omega (arith, few, put, c.requires)

pub overflow_cast-taken : goal.overflow_cast-taken
overflow_cast-taken c =
    let s = c.self.inside in
    let few = few_wait s c.args.self.now c.args.dest.number c.index.result c.self.view_is c.index.ensures.value c.self.invariant.5 in
    let put = few_put s c.self.invariant.5 c.self.invariant.1 in
    omega (arith, few, put, c.requires)

pub invariant_of-self : goal.invariant_of-self
invariant_of-self c =
    let s = c.self.inside in
    let b = c.args.dest.number in
    let enough : c.args.count ≤ length (waiting (held s) b) = subst (λ (v : SlotState). c.args.count ≤ length (waiting v b)) (sym c.self.view_is) c.requires in
    let next = reached_took (held s) b c.args.count c.args.dest.below enough c.self.invariant.5 in
    let is : slot_took b c.args.count (held s) ≡ record (held s) { taken = slice_set s.taken c.index.result (slice_index_or s.taken c.index.result 0 + c.args.count) } =
    sym (λ i. record (held s) { taken = slice_set s.taken (c.index.ensures.value i) (slice_index_or s.taken (c.index.ensures.value i) 0 + c.args.count) }) in
    let m = c.self.invariant.6 in (
      c.self.invariant.0,
      c.self.invariant.1,
      c.self.invariant.2,
      c.self.invariant.3,
      c.self.invariant.4,
      subst IsReached is next,
      record {
        stack = m.stack;
        log = m.log;
        outgoing = m.outgoing;
        places = m.places;
        bytes = m.bytes;
        acknowledged = m.acknowledged;
      },
      c.self.invariant.7,
    )
