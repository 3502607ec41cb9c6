use Rattle.gb_isolation.proofs.TwoRunLemmas.{alike}
use Rattle.gb_isolation.proofs.laws.runs_agree.Goals as goal

pub returns : goal.returns
returns c = alike c.groups_are_isolated.ensures
