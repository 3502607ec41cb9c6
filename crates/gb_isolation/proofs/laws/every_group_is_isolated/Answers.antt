use Rattle.gb_isolation.specs.Isolation.{IsIsolated}
use Rattle.gb_isolation.proofs.FedLemmas.{of_every}
use Rattle.gb_isolation.proofs.laws.every_group_is_isolated.Goals as goal

pub returns : goal.returns
returns c = of_every c.refusals_may_be_left_out.ensures IsIsolated c.groups_are_isolated.ensures
