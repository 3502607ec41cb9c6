use Rattle.gb_types.specs.Common.{arith, length, ap}
use Rattle.gb_frame.proofs.ItemLemmas.{item_shrinks}
use Rattle.gb_frame.proofs.ItemTextLemmas.{behind_first, none_again}
use Rattle.gb_frame.proofs.item.count_items.Goals as goal

pub loop-item-smaller : goal.loop-item-smaller
loop-item-smaller c = let shorter = item_shrinks _ _ c.loop-item.rest.now _ c.in-Some.ensures in omega (arith, shorter)

pub loop-item-preserved : goal.loop-item-preserved
loop-item-preserved c =
    let shorter = item_shrinks _ _ c.loop-item.rest.now _ c.in-Some.ensures in
    let few = c.loop-item.invariant.few in
    record {
      so_far = λ items t.
          let r = c.loop-item.invariant.so_far items t in
          let b = behind_first c.args.version c.loop-item.rest.now r.0 _ c.in-Some.after.now r.1 c.in-Some.ensures in
          (b.0, b.1, omega (arith, r.2, ap length b.2));
      few = omega (arith, shorter, few);
    }

pub returns : goal.returns
returns c = λ items t.
    let r = c.loop-item.invariant.so_far items t in
    let none = none_again c.args.version c.loop-item.rest.now r.0 r.1 c.in_default.ensures in
    omega (arith, r.2, ap length none)
