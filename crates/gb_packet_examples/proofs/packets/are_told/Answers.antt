use Rattle.gb_types.specs.Common.{rules, ◌≡◌, true, get_or, ◌∙◌, subst, All-more}
use Rattle.gb_frame.specs.Common.{item_of, HasGeneration}
use Rattle.gb_packet_examples.proofs.packets.are_told.Goals as goal

pub loop-item-preserved : goal.loop-item-preserved
loop-item-preserved c =
    let here : item_of c.view.result ≡ get_or c.args.items.now c.loop-item.item-index c.item-item.result = c.view.ensures ∙ c.item-item.is in
    let told : c.can_tell.result ≡ true = search rules in
    All-more (HasGeneration c.args.version) c.args.items.now c.loop-item.item-index c.item-item.result c.loop-item-test.true c.loop-item.invariant (subst (HasGeneration c.args.version) here (c.can_tell.ensures told))
