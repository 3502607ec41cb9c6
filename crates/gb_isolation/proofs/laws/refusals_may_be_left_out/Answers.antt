use Rattle.gb_isolation.proofs.FedLemmas.{left_out}
use Rattle.gb_isolation.proofs.laws.refusals_may_be_left_out.Goals as goal

pub returns : goal.returns
returns c = left_out
