use Rattle.gb_types.specs.Common.{◌≡◌, None, Some, arith, refl, rules, subst, sym}
use Rattle.gb_serve_words.specs.declared.limits.TheConstants.{MOST_WAITS}
use Rattle.gb_serve_words.proofs.LimitLemmas.{Spells, no_bytes, no_requests, no_waits, whole_limit}
use Rattle.gb_serve_words.proofs.limits.limit_of.Goals as goal

pub returns-in-None : goal.returns-in-None
returns-in-None c = no_requests c.args.text.now c.in-None.ensures

pub returns-in-None-number_before : goal.returns-in-None-number_before
returns-in-None-number_before c = no_bytes c.args.text.now c.in-Some.behind.now c.in-Some.requests c.in-Some.ensures c.in-None-number_before.ensures

pub returns-in-None-read_number : goal.returns-in-None-read_number
returns-in-None-read_number c =
    let same : c.in-Some-number_before.last.now ≡ c.as_bytes.result.now = search rules in
    no_waits c.args.text.now c.in-Some.behind.now c.in-Some-number_before.last.now c.in-Some.requests c.in-Some-number_before.bytes c.in-Some.ensures c.in-Some-number_before.ensures
    (subst (λ w. Spells None w MOST_WAITS) (sym same) c.in-None-read_number.ensures)

pub returns-in-Some-read_number : goal.returns-in-Some-read_number
returns-in-Some-read_number c =
    let same : c.in-Some-number_before.last.now ≡ c.as_bytes.result.now = search rules in
    whole_limit c.args.text.now c.in-Some.behind.now c.in-Some-number_before.last.now c.in-Some.requests c.in-Some-number_before.bytes c.in-Some-read_number.waits
    c.in-Some.ensures c.in-Some-number_before.ensures
    (subst (λ w. Spells (Some c.in-Some-read_number.waits) w MOST_WAITS) (sym same) c.in-Some-read_number.ensures)

pub overflow_cast-result : goal.overflow_cast-result
overflow_cast-result c = let read = (c.in-Some.ensures c.in-Some.requests c.in-Some.behind.now).0 refl in let low = read.0 in omega (arith, low)

pub overflow_cast-result-in-Some-read_number : goal.overflow_cast-result-in-Some-read_number
overflow_cast-result-in-Some-read_number c =
    let read = (c.in-Some-number_before.ensures c.in-Some-number_before.bytes c.in-Some-number_before.last.now).0 refl in
    let low = read.0 in
    omega (arith, low)

pub overflow_cast-result-in-Some-read_number-2 : goal.overflow_cast-result-in-Some-read_number-2
overflow_cast-result-in-Some-read_number-2 c = let read = (c.in-Some-read_number.ensures c.in-Some-read_number.waits).0 refl in let low = read.0 in omega (arith, low)
