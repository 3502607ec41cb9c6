use Rattle.gb_types.specs.Common.{◌≡◌, ◌-◌, ◌+◌, arith, suc, ap, sym, ◌∙◌}
use Rattle.gb_frame.specs.Reading.{items_at}
use Rattle.gb_frame.proofs.WalkLemmas.{behind, no_item, behind_more, none_left, behind_none, behind_some}
use Rattle.gb_frame.proofs.item.skip_items.Goals as goal

pub returns-in_default : goal.returns-in_default
returns-in_default c =
    let more : c.args.count - c.loop.counter ≡ suc (c.args.count - (c.loop.counter + 1)) = omega arith in
    let h = c.in_default.ensures in
    behind_none (items_at c.args.version c.args.limit c.args.count c.args.texts.now) (sym (ap behind (no_item c.args.version c.args.limit (c.args.count - (c.loop.counter + 1)) c.loop.rest.now h)) ∙ (rw (← more) c.loop.invariant))

pub loop-preserved : goal.loop-preserved
loop-preserved c =
    let more : c.args.count - c.loop.counter ≡ suc (c.args.count - (c.loop.counter + 1)) = omega arith in
    let e = behind_more c.args.version c.args.limit (c.args.count - (c.loop.counter + 1)) c.loop.rest.now _ c.in-Some.after.now c.in-Some.ensures in
    sym e ∙ (rw (← more) c.loop.invariant)

pub returns : goal.returns
returns c =
    let ended : c.args.count - c.loop.counter ≡ 0 = omega arith in
    behind_some (items_at c.args.version c.args.limit c.args.count c.args.texts.now) c.loop.rest.now (rw (ended, none_left) at c.loop.invariant)
