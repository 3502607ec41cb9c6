use Rattle.gb_types.specs.Common.{common_steps, ◌≡◌, ◌≤◌, ◌+◌, ◌-◌, ◌*◌, ◌%◌, ◌^◌, ◌∙◌, take, drop, get_or, sym, ap, subst, length-drop, rules, arith, IsInRange, get_or-drop}
use Rattle.std.specs.Str.Parse.{AllDigits, digits_value}
use Rattle.gb_spelling.proofs.NumberLemmas.{is_digit}
use Rattle.gb_schedule.proofs.NumbersLemmas.{more_digit}
use Rattle.gb_schedule.proofs.words.digits_at.Goals as goal

pub loop-place-preserved : goal.loop-place-preserved
loop-place-preserved c =
    let text = c.args.text.now in
    let front = drop c.args.from text in
    let place = c.loop-place.place in
    let so_far = place - c.args.from in
    let byte = get_or text place 0 in
    let start = c.loop-place.auto.place in
    let end = c.loop-place.auto.place-end in
    let below = c.loop-place-test.true in
    let count = length-drop c.args.from text in
    let here : get_or front so_far 0 ≡ byte = get_or-drop c.args.from text so_far 0 ∙ ap (λ k. get_or text k 0) (omega (arith, start)) in
    let next = (c.loop-place.number * 10 % 2 ^ 64 + c.from.result) % 2 ^ 64 in
    let digit : IsInRange 48 57 (get_or front so_far 0) = subst (IsInRange 48 57) (sym here) (is_digit byte (search rules)) in
    let value : c.from.result ≡ get_or front so_far 0 - 48 = c.from.ensures ∙ ap (λ b. b - 48) (sym here) in
    let more = more_digit front so_far c.loop-place.number next (omega (arith, below, end, start, count)) c.loop-place.invariant.0 c.loop-place.invariant.1 digit (ap (λ d. (c.loop-place.number * 10 % 2 ^ 64 + d) % 2 ^ 64) value) in
    let one : so_far + 1 ≡ place + 1 - c.args.from = omega (arith, start) in
    subst (λ n. AllDigits 10 (take n front) × (n ≤ 19 → digits_value 10 (take n front) ≡ next)) one more

pub returns-then-not-is_ascii_digit-clause-within : goal.returns-then-not-is_ascii_digit-clause-within
returns-then-not-is_ascii_digit-clause-within c = grind (arith, common_steps)

pub returns-then-not-is_ascii_digit-clause-end : goal.returns-then-not-is_ascii_digit-clause-end
returns-then-not-is_ascii_digit-clause-end c = grind (arith, common_steps)

pub returns-clause-within : goal.returns-clause-within
returns-clause-within c = grind (arith, common_steps)

pub returns-clause-end : goal.returns-clause-end
returns-clause-end c = grind (arith, common_steps)
