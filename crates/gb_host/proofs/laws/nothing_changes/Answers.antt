use Rattle.gb_host.proofs.NothingLemmas.{nothing_same}
use Rattle.gb_host.proofs.laws.nothing_changes.Goals as goal

pub returns : goal.returns
returns c = nothing_same
