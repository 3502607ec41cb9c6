use Rattle.gb_types.specs.Common.{get_or, sym, subst, rules, arith, Some, None, ◌+◌}
use Rattle.gb_spelling.proofs.NumberLemmas.{is_digit}
use Rattle.gb_schedule.specs.Numbers.{IsNumberAt}
use Rattle.gb_schedule.proofs.NumbersLemmas.{last_digit, next_digit}
use Rattle.gb_schedule.proofs.words.one_digit_at.Goals as goal

pub returns-then-end-text : goal.returns-then-end-text
returns-then-end-text c =
    let text = c.args.text.now in
    let from = c.args.from in
    let within = c.requires in
    let some = c.if-from-text.false in
    let end = c.if-end-text.true in
    subst (λ n. IsNumberAt text from n None) (sym c.from-number.ensures) (last_digit text from (omega (arith, within, some)) (is_digit (get_or text from 0) (search rules)) (omega (arith, end)))

pub returns : goal.returns
returns c =
    let text = c.args.text.now in
    let from = c.args.from in
    let within = c.requires in
    let some = c.if-from-text.false in
    let more = c.if-end-text.false in
    subst (λ n. IsNumberAt text from n (Some (from + 1 + 1))) (sym c.from-number.ensures) (next_digit text from (omega (arith, within, some)) (is_digit (get_or text from 0) (search rules)) (omega (arith, within, some, more)) c.if-text-end-ne32.false)
