-- A new store is empty.
use Rattle.gb_types.specs.Common.{◌≡◌, ◌∙◌, [], rules, sym, subst, List}
use Rattle.gb_slot.specs.declared.store.Kept.{Kept}
use Rattle.gb_slot.specs.Kept.{entries_of, AreInside}
use Rattle.gb_slot.proofs.PlaceLemmas.{none_counted}
use Rattle.gb_slot.proofs.store.Store.new.Goals as goal

pub invariant_of-result : goal.invariant_of-result
invariant_of-result c =
    let kept = c.in_ok-with_capacity.ensures.items in
    let bytes = c.in_ok-with_capacity-2.field-0.items in
    let index = c.whole.new.self in
    let messages : index.list.items ≡ [] = c.whole.ensures.items ∙ c.cover.ensures ∙ c.new-index.ensures in
    let none : entries_of bytes index.list.items c.in_ok-with_capacity.field-0.items ≡ [] = λ i. entries_of bytes (messages i) (kept i) in (
      search rules,
      subst (λ (ks : List Kept). AreInside bytes ks) (sym kept) tt,
      none_counted _ none,
      search rules,
      search rules,
      search rules,
    )
