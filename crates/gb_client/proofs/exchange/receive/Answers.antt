use Rattle.gb_types.specs.Common.{rules, ◌≡◌, ◌++◌, length, subst, w32, to_be_bytes}
use Rattle.std.specs.Io.KnownBytes.{Consumes}
use Rattle.gb_session.proofs.RunLemmas.{Consumes-join}
use Rattle.gb_client.proofs.exchange.receive.Goals as goal

pub returns-clause-ok : goal.returns-clause-ok
returns-clause-ok g c =
    let read = Consumes-join _ _ _ _ _ c.in_ok-length.ensures c.in_ok-body.ensures.bytes in
    let len : c.in_ok-length.length ≡ length c.in_ok-body.body.items = search rules in
    subst (λ n. Consumes (g.R.Read.remaining c.args.reader.now) (g.R.Read.remaining c.receive_body.new.reader) (to_be_bytes w32 n ++ c.in_ok-body.body.items)) len read
