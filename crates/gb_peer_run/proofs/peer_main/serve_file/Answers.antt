use Rattle.gb_session.proofs.RunLemmas.{Consumes-join}
use Rattle.gb_peer_run.proofs.ServedLemmas.{on_ok}
use Rattle.gb_peer_run.proofs.peer_main.serve_file.Goals as goal

pub returns-clause-read : goal.returns-clause-read
returns-clause-read g c =
    let keys = c.in-Ok.ensures.keys in
    on_ok c.serve_node.result
    (λ read. (keys.0, read.0, c.in-Ok.keys, keys.2, Consumes-join (g.R.Read.remaining c.args.reader.now) (g.R.Read.remaining c.read_keys.new.reader) (g.R.Read.remaining c.serve_node.new.reader) keys.0 read.0 keys.1 read.1))
    c.serve_node.ensures.read
