use Rattle.gb_types.specs.Common.{take}
use Rattle.gb_keys.proofs.KeyLemmas.{more_consumed}
use Rattle.gb_keys.proofs.keys.read_line.Goals as goal

pub loop-preserved : goal.loop-preserved
loop-preserved g c = (
  c.in_ok-count.ensures.within,
  more_consumed (g.R.Read.remaining c.args.reader.now) (g.R.Read.remaining c.loop.reader) (g.R.Read.remaining c.read_more.new.reader)
      (take c.loop.filled c.loop.space) c.in_ok-count.ensures.bytes.0 (take c.in_ok-count.count c.read_more.new.space)
      c.loop.invariant.1 c.in_ok-count.ensures.bytes.2 c.in_ok-count.ensures.bytes.1,
)
