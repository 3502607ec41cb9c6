use Rattle.gb_isolation.proofs.RefusalLemmas.{refusals_change}
use Rattle.gb_isolation.proofs.laws.refusals_change_nothing.Goals as goal

pub returns : goal.returns
returns c = refusals_change
