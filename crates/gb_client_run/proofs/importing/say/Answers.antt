use Rattle.gb_types.specs.Common.{sym, ◌∙◌}
use Rattle.gb_client_run.proofs.ImportLemmas.{tried_more}
use Rattle.gb_client_run.proofs.importing.say.Goals as goal

pub tries-preserved : goal.tries-preserved
tries-preserved g c =
    tried_more g.N.Nodes.asks _ _ _ _ _ _ _ _ c.in-Refused.why c.tries.invariant (rw c.in-Refused.is at c.in_ok-told.ensures) (sym c.may_pass.ensures ∙ c.if-may_pass.true)
