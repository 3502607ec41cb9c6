use Rattle.gb_types.specs.Common.{common_steps, ◌≡◌, ◌∙◌, drop, get_or, ap, sym, arith, get_or-drop}
use Rattle.gb_schedule.proofs.NumbersLemmas.{zero_first, digits_spell}
use Rattle.gb_schedule.proofs.words.number_of.Goals as goal

pub returns-in-1 : goal.returns-in-1
returns-in-1 c =
    let one = c.in-1.is in
    digits_spell (drop c.args.from c.args.text.now) c.args.digits c.requires.within c.requires.digits c.args.number c.ranges.number.fits (c.requires.number (omega (arith, one))) (omega (arith, one)) (λ more begin. omega (arith, more, one))

pub returns-then-text-from-eq48 : goal.returns-then-text-from-eq48
returns-then-text-from-eq48 c n =
    let front = drop c.args.from c.args.text.now in
    let range = c.in-2-to-19 in
    let zero : get_or front 0 0 ≡ 48 = get_or-drop c.args.from c.args.text.now 0 0 ∙ ap (λ k. get_or c.args.text.now k 0) (omega arith) ∙ c.if-text-from-eq48.true in (
      λ is. cc is,
      λ spelt. absurd (zero_first front c.args.digits c.requires.within c.requires.digits (omega (arith, range)) zero n (let le = spelt.0 in omega (arith, le)) spelt.1),
    )

pub returns-else-text-from-eq48 : goal.returns-else-text-from-eq48
returns-else-text-from-eq48 c =
    let front = drop c.args.from c.args.text.now in
    let range = c.in-2-to-19 in
    let here : get_or c.args.text.now c.args.from 0 ≡ get_or front 0 0 = ap (λ k. get_or c.args.text.now k 0) (omega arith) ∙ sym (get_or-drop c.args.from c.args.text.now 0 0) in
    digits_spell front c.args.digits c.requires.within c.requires.digits c.args.number c.ranges.number.fits (c.requires.number (omega (arith, range))) (omega (arith, range)) (λ more begin. c.if-text-from-eq48.false (here ∙ begin))

pub bounds-text-from : goal.bounds-text-from
bounds-text-from c = grind (arith, common_steps)

pub overflow_add-from : goal.overflow_add-from
overflow_add-from c = grind (arith, common_steps)

pub slice_bounds-read_word-end : goal.slice_bounds-read_word-end
slice_bounds-read_word-end c = grind (arith, common_steps)
