use Rattle.gb_types.specs.Common.{ℕ, List, subst, OnOk}
use Rattle.std.specs.Io.KnownBytes.{Appends}
use Rattle.gb_peer_run.proofs.peer_main.serve_node.Goals as goal

pub returns-clause-told : goal.returns-clause-told
returns-clause-told g c =
    subst (λ (line : List ℕ). OnOk c.serve_host.result (Appends (g.W.Write.contents c.args.writer.now) (g.W.Write.contents c.serve_host.new.writer) line))
    c.in_ok-service.ensures c.serve_host.ensures.told
