use Rattle.gb_types.specs.Common.{◌==◌, length, slice_index, arith, eqb-true, false_from_ne_true}
use Rattle.gb_schedule.proofs.WordLemmas.{first_space}
use Rattle.gb_schedule.proofs.words.word_len.Goals as goal

pub returns-in-Some : goal.returns-in-Some
returns-in-Some c =
    let text = c.args.text.now in
    let found = c.in-Some.ensures in
    let high = found.0.high in
    first_space text c.in-Some.len (omega (arith, high)) (λ k below. false_from_ne_true (slice_index text k == 32) (found.0.before k (omega arith) below)) (λ lt. eqb-true (slice_index text c.in-Some.len) 32 found.1)

pub returns-in-None : goal.returns-in-None
returns-in-None c =
    let text = c.args.text.now in
    first_space text (length text) (omega arith) (λ k below. false_from_ne_true (slice_index text k == 32) (c.in-None.ensures k (omega arith) below)) (λ lt. absurd (omega (arith, lt)))
