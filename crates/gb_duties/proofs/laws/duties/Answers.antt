use Rattle.gb_duties.proofs.DutyLemmas.{is_dutiful, delivered_origin, logged_here}
use Rattle.gb_duties.proofs.laws.duties.Goals as goal

pub returns-clause-dutiful : goal.returns-clause-dutiful
returns-clause-dutiful c = is_dutiful c.module_logs.ensures c.gives_up_whole_runs.ensures.delivered

pub returns-clause-members : goal.returns-clause-members
returns-clause-members c = delivered_origin c.module_logs.ensures

pub returns-clause-logged : goal.returns-clause-logged
returns-clause-logged c = λ bounds addr steps b spec. logged_here c.module_logs.ensures bounds addr steps b spec c.gives_up_whole_runs.ensures.delivered
