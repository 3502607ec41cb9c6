use Rattle.gb_types.specs.Common.{◌≡◌, length, get_or, take, arith, ap, ◌∙◌, append_assoc, All-more}
use Rattle.gb_frame.specs.Packet.{item_of}
use Rattle.gb_frame.specs.Spelling.{item_text, items_text, IsItem}
use Rattle.gb_frame.proofs.RoomLemmas.{one_fits, length_more, texts_more}
use Rattle.gb_frame.proofs.item.put_items.Goals as goal

pub put_item-requires-clause-room : goal.put_item-requires-clause-room
put_item-requires-clause-room c =
    let payload : length c.view.result.payload.now ≡ length c.item-item.result.payload = ap (λ i. length i.payload) c.view.ensures in
    let fits = one_fits c.args.version c.args.items.now c.loop-item.item-index c.item-item.result c.loop-item-test.true c.item-item.is in
    let len = c.loop-item.invariant.len in
    let capacity = c.loop-item.invariant.capacity in
    let room = c.requires.room in
    omega (arith, payload, fits, len, capacity, room)

pub loop-item-preserved : goal.loop-item-preserved
loop-item-preserved c =
    let here : item_of c.view.result ≡ get_or c.args.items.now c.loop-item.item-index c.item-item.result = c.view.ensures ∙ c.item-item.is in
    let payload : length c.view.result.payload.now ≡ length c.item-item.result.payload = ap (λ i. length i.payload) c.view.ensures in
    let more = texts_more c.args.version c.args.items.now c.loop-item.item-index c.item-item.result c.loop-item-test.true in
    let longer = length_more c.args.version c.args.items.now c.loop-item.item-index c.item-item.result c.loop-item-test.true c.item-item.is in
    let written = c.put_item.ensures.written in
    let len = c.put_item.ensures.len in
    let len_before = c.loop-item.invariant.len in
    let capacity = c.put_item.ensures.capacity in
    let capacity_before = c.loop-item.invariant.capacity in
    record {
      so_far = written ∙ (rw (c.loop-item.invariant.so_far, more, ← here) (append_assoc c.args.text.now.items (items_text c.args.version (take c.loop-item.item-index c.args.items.now)) (item_text c.args.version (item_of c.view.result))));
      len = omega (arith, payload, longer, len, len_before);
      capacity = omega (arith, capacity, capacity_before);
      fit = All-more (IsItem c.args.version) c.args.items.now c.loop-item.item-index c.item-item.result c.loop-item-test.true c.loop-item.invariant.fit (rw (← here) c.put_item.ensures.fits);
    }
