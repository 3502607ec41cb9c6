use Rattle.gb_types.specs.Common.{◌∙◌, ℕ, List, subst}
use Rattle.std.specs.Io.KnownBytes.{Appends}
use Rattle.gb_peer_run.proofs.ComplaintLemmas.{own_complaint}
use Rattle.gb_peer_run.proofs.complaint.complain.Goals as goal

pub returns-in-Ok : goal.returns-in-Ok
returns-in-Ok g c = λ told.
    subst (λ (w : List ℕ). Appends (g.E.Write.contents c.args.errors.now) (g.E.Write.contents c.tell.new.writer) w)
    (c.deref.ensures.value ∙ (c.in-Ok.ensures ∙ own_complaint c.args.dir.now c.args.fault c.in_default.not-RefusedFile c.in_default.not-Serve))
    (c.tell.ensures told)
