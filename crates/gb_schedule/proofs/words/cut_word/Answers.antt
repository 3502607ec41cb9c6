use Rattle.gb_types.specs.Common.{◌+◌, arith, take_rest}
use Rattle.gb_schedule.proofs.WordLemmas.{more_words, last_word}
use Rattle.gb_schedule.proofs.words.cut_word.Goals as goal

pub returns-then-len-text-clause-more : goal.returns-then-len-text-clause-more
returns-then-len-text-clause-more c =
    let text = c.args.text.now in
    let len = c.word_len-len.result in
    let is = c.word_len-len.ensures in
    let below = c.if-len-text.true in
    rw (take_rest text (len + 1)) (rw is (more_words text (omega (arith, is, below))))

pub returns-clause-last : goal.returns-clause-last
returns-clause-last c =
    let is = c.word_len-len.ensures in
    let all = c.if-len-text.false in
    last_word c.args.text.now (omega (arith, is, all))
