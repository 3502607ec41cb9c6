use Rattle.gb_types.specs.Common.{common_steps, ◌<◌, ◌-◌, ap, arith, length, get_or-set_same}
use Rattle.gb_slot.proofs.WindowLemmas.{one, unfinished_few, unfinished_has, unfinished_set}
use Rattle.gb_slot.proofs.window.acknowledge.Goals as goal

pub overflow_sub-result : goal.overflow_sub-result
overflow_sub-result c =
    let at = c.from-place.result - 1 in
    let within : at < length c.args.acknowledged.now = omega (arith, c.if-place-acknowledged.false) in
    let has = unfinished_has c.args.spec.now c.args.noticed.now c.args.acknowledged.now at c.index-acknowledged-place.result within in
    omega (arith, has, c.requires.count, c.count_one-before.ensures.value)

pub overflow_add-result : goal.overflow_add-result
overflow_add-result c =
    let few = unfinished_few c.args.spec.now c.args.noticed.now c.args.acknowledged.now in
    omega (arith, few, c.requires.few, c.requires.count, c.count_one-after.ensures.most)

pub returns-clause-count : goal.returns-clause-count
returns-clause-count c =
    let spec = c.args.spec.now in
    let noticed = c.args.noticed.now in
    let bys = c.args.acknowledged.now in
    let at = c.from-place.result - 1 in
    let old = c.index-acknowledged-place.result in
    let new = c.insert.new.self in
    let within : at < length bys = omega (arith, c.if-place-acknowledged.false) in
    let has = unfinished_has spec noticed bys at old within in
    let replaced = unfinished_set spec noticed bys at new old within in
    let there = ap (one spec noticed) (get_or-set_same bys at new c.index-acknowledged-place-3.result within) in
    omega (arith, has, replaced, there, c.requires.count, c.count_one-before.ensures.value, c.count_one-after.ensures.value)

pub returns-clause-items : goal.returns-clause-items
returns-clause-items c = grind (arith, common_steps)
