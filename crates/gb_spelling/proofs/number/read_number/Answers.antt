use Rattle.gb_types.specs.Common.{◌<◌, ◌^◌, None, refl, sym, ap, ◌∙◌, arith, decimal, rules, false≢true}
use Rattle.gb_spelling.proofs.NumberLemmas.{BeginsBadly, refuses, answers, not_badly, reads_back, no_digits}
use Rattle.gb_spelling.proofs.number.read_number.Goals as goal

pub returns-then-begins_badly : goal.returns-then-begins_badly
returns-then-begins_badly c =
    refuses c.args.word.now c.args.max None
    (λ n within e. not_badly n c.args.word.now (omega arith) e (c.if-begins_badly.ensures.0 refl)) refl

pub returns-in_err-number : goal.returns-in_err-number
returns-in_err-number c =
    refuses c.args.word.now c.args.max _
    (λ n within e. no_digits n c.args.word.now (omega arith) e (c.in_err-number.ensures.none))
    c.from_residual.ensures

pub returns : goal.returns
returns c =
    let read = c.in_ok-number.ensures.some in
    let small : c.in_ok-number.number < 2 ^ 64 = search rules in
    let well = λ (bad : BeginsBadly c.args.word.now). false≢true (sym c.if-begins_badly.false ∙ c.begins_badly.ensures.1 bad) in
    let spelt = reads_back c.args.word.now read.0 (omega (arith, read.1, small)) well in
    answers c.args.word.now c.args.max c.in_ok-number.number _ (omega arith) small (ap decimal (sym read.1) ∙ spelt) c.then_some.ensures
