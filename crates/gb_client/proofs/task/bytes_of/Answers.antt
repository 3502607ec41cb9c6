use Rattle.gb_types.specs.Common.{arith}
use Rattle.gb_client.proofs.ReplyLemmas.{bytes_more}
use Rattle.gb_client.proofs.task.bytes_of.Goals as goal

pub loop-word-preserved : goal.loop-word-preserved
loop-word-preserved c =
    bytes_more c.loop-word.bytes.items c.push.new.self.items _ c.args.words.now c.loop-word.word-index _ c.loop-word.invariant c.in_ok-push.ensures.items c.as_bytes.ensures.value (omega (arith, c.loop-word-test.true))
