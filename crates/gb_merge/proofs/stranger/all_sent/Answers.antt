use Rattle.gb_types.specs.Common.{◌++◌, List, sym, ◌∙◌, ap}
use Rattle.gb_node.specs.declared.tape.TapeEntry.{TapeEntry}
use Rattle.gb_merge.specs.Faults.{sent_of}
use Rattle.gb_merge.proofs.TellingLemmas.{all_more, none_of_all}
use Rattle.gb_merge.proofs.stranger.all_sent.Goals as goal

pub loop-tape-init : goal.loop-tape-init
loop-tape-init c = c.new-sent.ensures ∙ sym none_of_all

pub loop-tape-preserved : goal.loop-tape-preserved
loop-tape-preserved c = all_more c.args.tapes.now c.loop-tape.tape-index c.tape-item.result c.loop-tape.sent c.post_all.new.sent c.loop-tape-test.true c.tape-item.is c.loop-tape.invariant (c.in-Ok.ensures ∙ ap (λ (t : List TapeEntry). c.loop-tape.sent ++ sent_of t) c.again.ensures)
