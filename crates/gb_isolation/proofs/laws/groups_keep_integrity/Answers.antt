use Rattle.gb_isolation.specs.RunLaws.{RunIntegrity}
use Rattle.gb_isolation.proofs.FedLemmas.{of_every}
use Rattle.gb_isolation.proofs.RunIntegrityLemmas.{all_integral}
use Rattle.gb_isolation.proofs.laws.groups_keep_integrity.Goals as goal

pub returns : goal.returns
returns c = of_every c.refusals_may_be_left_out.ensures RunIntegrity (all_integral c.integrity.ensures c.groups_are_isolated.ensures)
