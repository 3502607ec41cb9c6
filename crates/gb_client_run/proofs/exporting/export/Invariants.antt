use Rattle.gb_types.specs.Common.{map}
use Rattle.gb_client_run.proofs.ExportLemmas.{Exports}
use Rattle.gb_client_run.proofs.exporting.export.Given as goal

-- logs were fetched from the beginning on, and their entries counted and printed
abbrev pub invariant-turns : goal.invariant-turns
invariant-turns g l =
    Exports g.N.Nodes.asks l.member.target.secrets.now l.member.target.server.port l.member.node (map (λ word. word.now) l.member.asked.now.words.items)
    l.initial.nodes l.nodes (g.W.Write.contents l.initial.writer) (g.W.Write.contents l.writer) l.count
