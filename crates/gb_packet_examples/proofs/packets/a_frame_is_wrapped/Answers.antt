use Rattle.gb_types.specs.Common.{◌≡◌, ◌≤◌, [], ◌∷◌, length, refl, sym, arith, ◌∙◌, All-nil, All-cons}
use Rattle.gb_types.specs.declared.version.Version.TheVariants.{One}
use Rattle.gb_frame.specs.declared.item.Item.{Item}
use Rattle.gb_frame.specs.Common.{items_text, IsItem}
use Rattle.gb_packet_examples.proofs.packets.a_frame_is_wrapped.Goals as goal

pub wrap-requires-clause-packet : goal.wrap-requires-clause-packet
wrap-requires-clause-packet g c =
    let item : Item = record { tenant = 7; group = 1; generation = 0; origin = 0; seq = 1; payload = 97 ∷ [] } in
    let written : c.put_item.new.text.items ≡ items_text One (item ∷ []) = c.put_item.ensures.written ∙ (rw c.in_ok-frame.ensures.items refl) in
    let fit = All-cons (IsItem One) item [] c.put_item.ensures.fits (All-nil (IsItem One)) in (
      item ∷ [],
      record { parts = c.deref-2.ensures.value ∙ written; fit = fit },
      sym (c.count_items-count.ensures (item ∷ []) (record { parts = c.deref.ensures.value ∙ written; fit = fit })),
      record {
        from = omega arith;
        to = omega arith;
        apart = λ e. absurd (omega (arith, e));
        base = omega arith;
        mask = refl;
        frame = (λ e. absurd (omega (arith, e)), λ e. absurd (omega (arith, e)));
        payloads = All-cons (λ (i : Item). length i.payload ≤ 1024) item [] (omega arith) (All-nil (λ (i : Item). length i.payload ≤ 1024));
        room = omega arith;
      },
    )
