use Rattle.gb_types.specs.Common.{◌∙◌, ap, sym, arith, ◌+◌}
use Rattle.gb_slot.specs.Slot.{unfinished_of}
use Rattle.gb_slot.proofs.WindowLemmas.{unfinished_few, unfinished_pushed}
use Rattle.gb_slot.proofs.window.add_said.Goals as goal

pub overflow_add-result : goal.overflow_add-result
overflow_add-result c =
    let few = unfinished_few c.args.spec.now c.args.noticed.now c.args.acknowledged.now.items in
    let len = c.args.acknowledged.now.ok.0 in
    omega (arith, few, len, c.requires.few, c.requires.count, c.count_one-more.ensures.most)

pub returns-clause-count : goal.returns-clause-count
returns-clause-count c =
    let spec = c.args.spec.now in
    let noticed = c.args.noticed.now in
    let items = c.args.acknowledged.now.items in
    ap (λ n. n + c.count_one-more.result) c.requires.count
    ∙ (ap (λ n. unfinished_of spec noticed items + n) c.count_one-more.ensures.value
    ∙ (sym (unfinished_pushed spec noticed items c.args.by) ∙ ap (unfinished_of spec noticed) (sym c.push_reserved.ensures.items)))
