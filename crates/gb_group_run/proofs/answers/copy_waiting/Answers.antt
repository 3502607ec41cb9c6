use Rattle.gb_types.specs.Common.{◌≡◌, ◌+◌, List, [], ◌∷◌, ◌++◌, take, ap, sym, ◌∙◌, append_assoc, take_more, slice_get_within, get_or_from_slice_get}
use Rattle.gb_types.specs.declared.entry.Entry.{Entry}
use Rattle.gb_slot.specs.Common.{waiting}
use Rattle.gb_group_run.proofs.answers.copy_waiting.Goals as goal

pub loop-place-preserved : goal.loop-place-preserved
loop-place-preserved c =
    let xs : List Entry = waiting c.args.slot.now c.args.b.number in
    let x : Entry = c.in_ok-item.field-0 in
    let place = c.loop-place.place in
    let within = slice_get_within xs place x c.in_ok-item.ensures in
    let more : take (place + 1) xs ≡ take place xs ++ x ∷ [] = take_more xs place x within ∙ ap (λ (y : Entry). take place xs ++ y ∷ []) (get_or_from_slice_get xs place x x c.in_ok-item.ensures) in
    c.in_ok-push.ensures.ok ∙ (ap (λ (ys : List Entry). ys ++ x ∷ []) c.loop-place.invariant ∙ (append_assoc c.args.row.now (take place xs) (x ∷ []) ∙ ap (λ (ys : List Entry). c.args.row.now ++ ys) (sym more)))
