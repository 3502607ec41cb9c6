use Rattle.gb_link.proofs.LinkLemmas.{IsSound-run}
use Rattle.gb_link.proofs.link.soundness.Goals as goal

pub returns : goal.returns
returns g c = λ events. IsSound-run events
