use Rattle.gb_types.specs.Common.{◌≡◌, length, sym, ◌∙◌, arith}
use Rattle.gb_types.proofs.SameLemmas.{same-true}
use Rattle.gb_layer.specs.Common.{message_at}
use Rattle.gb_rules.specs.Common.{payload_in}
use Rattle.gb_slot.specs.Kept.{entries_of}
use Rattle.gb_slot.proofs.PlaceLemmas.{any_entries, payload_missing}
use Rattle.gb_slot.proofs.store.Store.payload_at.Goals as goal

pub returns-then-eq : goal.returns-then-eq
returns-then-eq c =
    let s = c.self.inside in
    let ms = s.index.list.items in
    let len : length ms ≡ length c.deref.result.now = omega (arith, c.self.invariant.0, s.kept.ok.0, s.index.list.ok.0, c.deref.ensures.len) in
    let is : message_at ms c.args.place ≡ c.args.m = sym c.message.ensures ∙ same-true c.message.result c.args.m (sym c.eq.ensures ∙ c.if-eq.true) in
    rw (← c.self.view_is)
    (c.part.ensures ms len s.index.differ
    ∙ (λ i. payload_in (entries_of (c.deref-then-eq.ensures.value i) ms (c.deref.ensures.value i)) (is i)))

pub returns-in-None : goal.returns-in-None
returns-in-None c =
    let s = c.self.inside in
    let len : length s.kept.items ≡ length s.index.list.items = omega (arith, c.self.invariant.0, s.kept.ok.0, s.index.list.ok.0) in
    let entries = entries_of s.bytes.items s.index.list.items s.kept.items in
    rw (← c.self.view_is) (sym (payload_missing c.args.m entries (any_entries s.bytes.items s.index.list.items s.kept.items c.args.m len ∙ c.in-None.ensures)))
