use Rattle.gb_types.specs.Common.{◌++◌, [], rules}
use Rattle.gb_session.proofs.RunLemmas.{Consumes-join, Consumes-none}
use Rattle.gb_server.proofs.orders.heed.Goals as goal

pub loop-init : goal.loop-init
loop-init g c = (search rules, [], Consumes-none (g.R.Read.remaining c.args.reader.now))

pub loop-preserved : goal.loop-preserved
loop-preserved g c =
    let more = c.heed_once-place.ensures.read in (
      c.heed_once-place.ensures.within,
      c.loop.invariant.1 ++ more.0,
      Consumes-join (g.R.Read.remaining c.args.reader.now) (g.R.Read.remaining c.loop.reader) (g.R.Read.remaining c.heed_once-place.new.reader)
          c.loop.invariant.1 more.0 c.loop.invariant.2 more.1,
    )
