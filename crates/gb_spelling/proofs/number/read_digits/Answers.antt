use Rattle.gb_types.specs.Common.{◌≤◌, ◌+◌, ◌-◌, ◌*◌, ◌^◌, get_or, rules, IsInRange}
use Rattle.std.proofs.lemmas.Str.Parse.{digit_at}
use Rattle.gb_spelling.proofs.NumberLemmas.{is_digit, no_digit, read_more, too_many_bits}
use Rattle.gb_spelling.proofs.number.read_digits.Goals as goal

pub returns-then-not-is_ascii_digit-clause-none : goal.returns-then-not-is_ascii_digit-clause-none
returns-then-not-is_ascii_digit-clause-none c = λ all. absurd (no_digit (get_or c.args.word.now c.loop-byte.byte-index 0) (search rules) (digit_at c.args.word.now c.loop-byte.byte-index all (search rules)))

pub returns-in_err-number-clause-none : goal.returns-in_err-number-clause-none
returns-in_err-number-clause-none c =
    let digit : IsInRange 48 57 (get_or c.args.word.now c.loop-byte.byte-index 0) = is_digit (get_or c.args.word.now c.loop-byte.byte-index 0) (search rules) in
    let many : 2 ^ 64 ≤ c.loop-byte.number * 10 + (get_or c.args.word.now c.loop-byte.byte-index 0 - 48) = search rules in
    let all = too_many_bits c.args.word.now c.loop-byte.byte-index c.loop-byte.number (search rules) c.loop-byte.invariant digit many in rw c.from_residual.ensures (λ _. all)

pub loop-byte-preserved : goal.loop-byte-preserved
loop-byte-preserved c =
    let digit : IsInRange 48 57 (get_or c.args.word.now c.loop-byte.byte-index 0) = is_digit (get_or c.args.word.now c.loop-byte.byte-index 0) (search rules) in
    read_more c.args.word.now c.loop-byte.byte-index c.loop-byte.number c.in_ok-number.number (search rules) c.loop-byte.invariant digit (search rules)
