use Rattle.gb_client_run.proofs.ExportLemmas.{exports_more, exports_refused}
use Rattle.gb_client_run.proofs.exporting.export.Goals as goal

pub turns-preserved : goal.turns-preserved
turns-preserved g c =
    exports_more g.N.Nodes.asks _ _ _ _ _ _ _ _ _ _ _ _ c.in-Log.entries c.turns.invariant (rw c.in-Log.is at c.in_ok-reply.ensures)
    (rw c.as_slice.ensures at c.in_ok-print_entries-in-Log.ensures) (rw c.as_slice-in-Log.ensures at c.in_ok-count-in-Log.ensures)

pub returns-in-Refused : goal.returns-in-Refused
returns-in-Refused g c =
    exports_refused g.N.Nodes.asks _ _ _ _ _ _ _ _ _ _ _ c.in-Refused.why c.turns.invariant (rw c.in-Refused.is at c.in_ok-reply.ensures)
    c.in_ok-print_refusal-in-Refused.ensures
