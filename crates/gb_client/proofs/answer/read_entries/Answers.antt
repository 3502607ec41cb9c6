use Rattle.gb_types.specs.Common.{arith}
use Rattle.gb_client.proofs.ReplyLemmas.{entry_at, texts_more}
use Rattle.gb_client.proofs.answer.read_entries.Goals as goal

pub returns-in_default-clause-none : goal.returns-in_default-clause-none
returns-in_default-clause-none c = λ entries fits are.
    let at = entry_at entries c.args.words.now c.loop-word.word-index _ fits are (omega (arith, c.loop-word-test.true)) in
    let none = rw c.in_default.is at c.in_ok-entry.ensures.none in
    none at.0 at.1 at.2

pub loop-word-preserved : goal.loop-word-preserved
loop-word-preserved c =
    let some = rw c.in-Some.is at c.in_ok-entry.ensures.some in
    texts_more c.loop-word.entries c.push.new.self c.in-Some.entry c.args.words.now c.loop-word.word-index _ c.loop-word.invariant c.in_ok-push.ensures.ok some (omega (arith, c.loop-word-test.true))
