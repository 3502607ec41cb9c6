use Rattle.gb_kinds.proofs.DeliveryLemmas.{kind_log_in_order, kind_log_once, kind_log_mentioned}
use Rattle.gb_kinds.proofs.laws.logs.Goals as goal

pub returns-clause-runs : goal.returns-clause-runs
returns-clause-runs c = kind_log_in_order

pub returns-clause-once : goal.returns-clause-once
returns-clause-once c = kind_log_once

pub returns-clause-mentioned : goal.returns-clause-mentioned
returns-clause-mentioned c = kind_log_mentioned
