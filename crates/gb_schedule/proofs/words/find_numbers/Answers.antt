use Rattle.gb_types.specs.Common.{common_steps, ◌∙◌, length, take, drop, decimal, ap, arith, length-map}
use Rattle.gb_schedule.proofs.WordLemmas.{too_many}
use Rattle.gb_schedule.proofs.NumbersLemmas.{stops_at}
use Rattle.gb_schedule.proofs.words.find_numbers.Goals as goal

pub returns-in_err-number-clause-none : goal.returns-in_err-number-clause-none
returns-in_err-number-clause-none c =
    let left = drop c.loop-place.from c.args.text.now in
    let front = take c.loop-place.place c.loop-place.numbers in
    let so_far = c.loop-place.invariant.3 in
    rw c.from_residual.ensures (λ ns fit few is. stops_at left front ns c.in_err-number.ensures.none fit (so_far ∙ is))

pub returns-clause-none : goal.returns-clause-none
returns-clause-none c ns fit few is =
    let count = c.loop-place.invariant.0 in
    let end = c.loop-place-test.false in
    let so_far = c.loop-place.invariant.3 in
    let more = too_many decimal c.loop-place.numbers c.loop-place.place c.args.text.now (drop c.loop-place.from c.args.text.now) (omega (arith, count, end)) so_far in
    let words = ap length is in
    let each = length-map ns decimal in
    omega (arith, count, more, words, each, few)

pub returns-in-None-clause-found : goal.returns-in-None-clause-found
returns-in-None-clause-found c = grind (arith, common_steps)

pub loop-place-preserved : goal.loop-place-preserved
loop-place-preserved c = grind (arith, common_steps)
