use Rattle.gb_types.specs.Common.{◌≡◌, ◌∙◌, ap, sym, subst, length, arith}
use Rattle.gb_layer.specs.Common.{message_at}
use Rattle.gb_slot.specs.Arrivals.{with_node}
use Rattle.gb_slot.specs.Kept.{AreCounted, arrivals_of}
use Rattle.gb_slot.specs.StoreValue.{StoreValue, total_bytes}
use Rattle.gb_slot.proofs.PlaceLemmas.{entries_count, entries_ids}
use Rattle.gb_slot.proofs.store.Store.mark.Goals as goal

pub mark-requires : goal.mark-requires
mark-requires c =
    let s = c.self.inside in
    let len : length s.kept.items ≡ length s.index.list.items = omega (arith, c.self.invariant.0, s.kept.ok.0, s.index.list.ok.0) in
    let count = ap (λ (v : StoreValue). length v.entries) c.self.view_is in
    let all = entries_count s.bytes.items s.index.list.items s.kept.items len in
    omega (arith, c.requires, count, all, len, s.kept.ok.0, c.from.ensures)

pub returns-clause-arrivals : goal.returns-clause-arrivals
returns-clause-arrivals c =
    let s = c.self.inside in
    let ms = s.index.list.items in
    let len : length s.kept.items ≡ length ms = omega (arith, c.self.invariant.0, s.kept.ok.0, s.index.list.ok.0) in
    let before = arrivals_of ms s.kept.items in
    rw (← c.self.view_is)
    (c.mark.ensures.arrivals ms (sym len) s.index.differ
    ∙ ap (λ i. with_node c.args.from (message_at ms i) before) c.from.ensures
    ∙ ap (λ xs. with_node c.args.from (message_at xs c.args.place) before) (sym (entries_ids s.bytes.items ms s.kept.items len)))

pub invariant_of-self : goal.invariant_of-self
invariant_of-self c =
    let s = c.self.inside in
    let same = c.mark.ensures.entries s.bytes.items s.index.list.items in (
      c.mark.ensures.kept.0 ∙ c.self.invariant.0,
      c.mark.ensures.inside s.bytes.items c.self.invariant.1,
      subst (AreCounted s.seen) (sym same) c.self.invariant.2,
      c.self.invariant.3 ∙ sym (ap total_bytes same),
      omega (arith, c.mark.ensures.kept.1, c.self.invariant.4),
      omega (arith, c.mark.ensures.kept.1, c.self.invariant.5),
    )
