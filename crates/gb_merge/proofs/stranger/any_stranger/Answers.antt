use Rattle.gb_types.specs.Common.{ℕ}
use Rattle.gb_node.specs.Common.{node_numbered}
use Rattle.gb_merge.specs.Interleaving.{tape_of}
use Rattle.gb_merge.specs.Woven.{HasStranger}
use Rattle.gb_merge.proofs.CodeLemmas.{strange_to, strange_from, none_more}
use Rattle.gb_merge.proofs.stranger.any_stranger.Goals as goal

pub returns-then-has_stranger-clause-some : goal.returns-then-has_stranger-clause-some
returns-then-has_stranger-clause-some c = λ _.
    (c.loop-i.i, strange_to c.args.reader.now c.loop-i.i c.new.result c.args.sent.now c.args.tapes.now c.index-tapes-i.result c.again.result c.new.ensures c.again.ensures c.index-tapes-i.is c.loop-i-test.true (c.has_stranger.ensures.some c.if-has_stranger.true))

pub loop-i-preserved : goal.loop-i-preserved
loop-i-preserved c =
    none_more (λ (b : ℕ). HasStranger c.args.reader.now (node_numbered b) c.args.sent.now (tape_of c.args.tapes.now b)) c.loop-i.i c.loop-i.invariant
    (λ has. c.has_stranger.ensures.none c.if-has_stranger.false (strange_from c.args.reader.now c.loop-i.i c.new.result c.args.sent.now c.args.tapes.now c.index-tapes-i.result c.again.result c.new.ensures c.again.ensures c.index-tapes-i.is c.loop-i-test.true has))
