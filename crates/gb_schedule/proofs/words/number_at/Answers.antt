use Rattle.gb_types.specs.Common.{common_steps, ◌≡◌, [], ◌∷◌, ◌+◌, ◌∙◌, ◌<◌, drop, length, get_or, decimal, ap, sym, length-drop, arith, get_or-drop, drop-drop}
use Rattle.gb_spelling.specs.Common.{words_of}
use Rattle.gb_spelling.proofs.NumberLemmas.{no_digit}
use Rattle.gb_types.proofs.ReadLemmas.{found}
use Rattle.gb_schedule.proofs.NumbersLemmas.{last_digits, next_digits, no_number, no_number_first}
use Rattle.gb_schedule.proofs.words.number_at.Goals as goal

pub returns-in_err-number-clause-none : goal.returns-in_err-number-clause-none
returns-in_err-number-clause-none c =
    let front = drop c.args.from c.args.text.now in
    let digits = c.digits_at-number.result.1 in
    let found = c.digits_at-number.ensures in
    rw c.from_residual.ensures (no_number_first front digits found.within found.digits (λ below. no_digit (get_or front digits 0) (found.end below)) c.in_err-number.ensures)

pub returns-then-end-text-clause-some : goal.returns-then-end-text-clause-some
returns-then-end-text-clause-some c =
    let front = drop c.args.from c.args.text.now in
    let digits = c.digits_at-number.result.1 in
    let here = c.digits_at-number.ensures in
    let count = length-drop c.args.from c.args.text.now in
    let end = c.if-end-text.true in
    let spelt = found _ c.in_ok-number.number c.in_ok-number.ensures in
    last_digits front digits here.within here.digits (omega (arith, count, end)) ∙ ap (λ w. w ∷ []) spelt.1

pub returns-then-text-end-ne32-clause-none : goal.returns-then-text-end-ne32-clause-none
returns-then-text-end-ne32-clause-none c =
    let front = drop c.args.from c.args.text.now in
    let digits = c.digits_at-number.result.1 in
    let here = c.digits_at-number.ensures in
    let within = here.within in
    let count = length-drop c.args.from c.args.text.now in
    let more = c.if-end-text.false in
    let start = c.requires in
    let below = (let lt : digits < length front = omega (arith, within, count, more, start) in lt) in
    let same : get_or front digits 0 ≡ get_or c.args.text.now (c.args.from + digits) 0 = get_or-drop c.args.from c.args.text.now digits 0 in
    no_number front digits here.within here.digits below (λ space. c.if-text-end-ne32.true (sym same ∙ space)) (no_digit (get_or front digits 0) (here.end below))

pub returns-clause-some : goal.returns-clause-some
returns-clause-some c =
    let front = drop c.args.from c.args.text.now in
    let digits = c.digits_at-number.result.1 in
    let here = c.digits_at-number.ensures in
    let within = here.within in
    let count = length-drop c.args.from c.args.text.now in
    let more = c.if-end-text.false in
    let start = c.requires in
    let below : digits < length front = omega (arith, within, count, more, start) in
    let same : get_or front digits 0 ≡ get_or c.args.text.now (c.args.from + digits) 0 = get_or-drop c.args.from c.args.text.now digits 0 in
    let spelt = found _ c.in_ok-number.number c.in_ok-number.ensures in
    let rest : drop (digits + 1) front ≡ drop (c.args.from + digits + 1) c.args.text.now = drop-drop (digits + 1) c.args.from c.args.text.now ∙ ap (λ k. drop k c.args.text.now) (omega arith) in (
      omega (arith, below, count),
      next_digits front digits here.within here.digits below (same ∙ c.if-text-end-ne32.false) ∙ ap (λ w. w ∷ words_of (drop (digits + 1) front)) spelt.1 ∙ ap (λ text. decimal c.in_ok-number.number ∷ words_of text) rest,
    )

pub overflow_add-end : goal.overflow_add-end
overflow_add-end c = grind (arith, common_steps)

pub bounds-text-end : goal.bounds-text-end
bounds-text-end c = grind (arith, common_steps)

pub overflow_add-result : goal.overflow_add-result
overflow_add-result c = grind (arith, common_steps)
