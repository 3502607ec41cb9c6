use Rattle.gb_kinds.proofs.DeliveryLemmas.{log_once}
use Rattle.gb_kinds.proofs.laws.module_logs.Goals as goal

pub returns : goal.returns
returns c = log_once
