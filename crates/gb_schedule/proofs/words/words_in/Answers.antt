use Rattle.gb_types.specs.Common.{length-set, ◌∙◌, arith}
use Rattle.gb_schedule.proofs.WordLemmas.{goes_on, ends, too_many}
use Rattle.gb_schedule.proofs.words.words_in.Goals as goal

pub returns-in-None-clause-found : goal.returns-in-None-clause-found
returns-in-None-clause-found c =
    let count = c.loop-place.invariant.0 in
    let below = c.loop-place-test.true in
    let same = length-set c.loop-place.words c.loop-place.place c.cut_word.result.0 in
    (omega (arith, below, count, same), ends (λ w. w.now) c.loop-place.words c.loop-place.place c.cut_word.result.0 c.args.line.now c.loop-place.left.now (omega (arith, count, below)) c.loop-place.invariant.1 (rw c.in-None.is at c.cut_word.ensures.last))

pub loop-place-preserved : goal.loop-place-preserved
loop-place-preserved c =
    let count = c.loop-place.invariant.0 in
    let below = c.loop-place-test.true in
    (length-set c.loop-place.words c.loop-place.place c.cut_word.result.0 ∙ count, goes_on (λ w. w.now) c.loop-place.words c.loop-place.place c.cut_word.result.0 c.args.line.now c.loop-place.left.now c.in-Some.rest.now (omega (arith, count, below)) c.loop-place.invariant.1 (rw c.in-Some.is at c.cut_word.ensures.more))

pub returns-clause-none : goal.returns-clause-none
returns-clause-none c =
    let count = c.loop-place.invariant.0 in
    let end = c.loop-place-test.false in
    let more = too_many (λ w. w.now) c.loop-place.words c.loop-place.place c.args.line.now c.loop-place.left.now (omega (arith, count, end)) c.loop-place.invariant.1 in
    omega (arith, count, more)
