use Rattle.gb_types.specs.Common.{ℕ, map, subst, ◌+◌, ◌<◌, List, length, sym, ◌∙◌, ap, arith, slice_get, slice_index_or, slice_get-get_or, message_of}
use Rattle.gb_rules.specs.Common.{payload_in}
use Rattle.gb_slot.specs.Slot.{taken_for}
use Rattle.gb_slot.specs.SlotState.{SlotState}
use Rattle.gb_slot.proofs.MemoryLemmas.{few_wait}
use Rattle.gb_slot.proofs.OutgoingLemmas.{place_within}
use Rattle.gb_slot.proofs.SlotLemmas.{put-at, waiting-placed}
use Rattle.gb_slot.proofs.slot.Slot.peek_at.Goals as goal

pub bounds-outgoing-self-inside : goal.bounds-outgoing-self-inside
bounds-outgoing-self-inside c =
    let few = few_wait c.self.inside c.args.self.now c.args.dest.number c.index.result c.self.view_is c.index.ensures.value c.self.invariant.5 in
    let all = ap (λ (os : List ℕ). length os) c.as_slice-outgoing.ensures.value in
    omega (arith, few, all, c.requires)

pub at-requires : goal.at-requires
at-requires c =
    let s = c.self.inside in
    let i = slice_index_or s.taken c.index.result 0 + c.args.place in
    let few = few_wait s c.args.self.now c.args.dest.number c.index.result c.self.view_is c.index.ensures.value c.self.invariant.5 in
    let all = ap (λ (os : List ℕ). length os) c.as_slice-outgoing.ensures.value in
    let within : i < length c.as_slice-outgoing.result.now = omega (arith, few, all, c.requires) in
    let there = slice_get-get_or c.as_slice-outgoing.result.now i 0 within in
    subst (λ k. k < length s.store.entries) (sym c.from.ensures) (place_within s.store.entries s.outgoing.items i (slice_index_or c.as_slice-outgoing.result.now i 0) c.self.invariant.7 (ap (λ os. slice_get os i) (sym c.as_slice-outgoing.ensures.value) ∙ there))

pub returns : goal.returns
returns c =
    let s = c.self.inside in
    let now = c.args.self.now in
    let b = c.args.dest.number in
    let m = c.at.result.0 in
    let i = slice_index_or s.taken c.index.result 0 + c.args.place in
    let few = few_wait s now b c.index.result c.self.view_is c.index.ensures.value c.self.invariant.5 in
    let all = ap (λ (os : List ℕ). length os) c.as_slice-outgoing.ensures.value in
    let within : i < length c.as_slice-outgoing.result.now = omega (arith, few, all, c.requires) in
    let place = ap (λ k. slice_index_or s.taken k 0 + c.args.place) c.index.ensures.value ∙ ap (λ (v : SlotState). taken_for v b + c.args.place) c.self.view_is in
    let there = slice_get-get_or c.as_slice-outgoing.result.now i 0 within in
    let outgoing = put-at now s.store.entries s.outgoing.items c.as_slice-outgoing.result.now i (slice_index_or c.as_slice-outgoing.result.now i 0) m (ap (λ (v : SlotState). v.outgoing) c.self.view_is) c.as_slice-outgoing.ensures.value there (ap (slice_get (map message_of s.store.entries)) (sym c.from.ensures) ∙ c.at.ensures.message) in
    waiting-placed now b i c.args.place m c.at.result.1.now c.requires place outgoing (c.at.ensures.payload ∙ ap (λ (v : SlotState). payload_in v.store m) c.self.view_is)

pub overflow_add-stored : goal.overflow_add-stored
overflow_add-stored c =
    let few = few_wait c.self.inside c.args.self.now c.args.dest.number c.index.result c.self.view_is c.index.ensures.value c.self.invariant.5 in
    let all = ap (λ (os : List ℕ). length os) c.as_slice-outgoing.ensures.value in
    omega (arith, few, all, c.requires)

pub offset_bounds-outgoing-self-inside : goal.offset_bounds-outgoing-self-inside
offset_bounds-outgoing-self-inside c =
    let few = few_wait c.self.inside c.args.self.now c.args.dest.number c.index.result c.self.view_is c.index.ensures.value c.self.invariant.5 in
    let all = ap (λ (os : List ℕ). length os) c.as_slice-outgoing.ensures.value in
    omega (arith, few, all, c.requires)
