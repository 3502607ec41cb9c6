use Rattle.gb_types.specs.Common.{sym, subst}
use Rattle.std.specs.Io.KnownBytes.{Consumes}
use Rattle.gb_client.proofs.exchange.receive_length.Goals as goal

pub returns : goal.returns
returns g c = subst (Consumes (g.R.Read.remaining c.args.reader.now) (g.R.Read.remaining c.fill.new.reader)) (sym c.length_of.ensures) c.in_ok-fill.ensures.ok
