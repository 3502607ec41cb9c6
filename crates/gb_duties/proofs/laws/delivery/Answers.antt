use Rattle.gb_duties.proofs.DeliveryLemmas.{is_kept}
use Rattle.gb_duties.proofs.laws.delivery.Goals as goal

pub returns : goal.returns
returns c = is_kept c.module_logs.ensures c.gives_up_whole_runs.ensures.numbers c.top_is_the_greatest.ensures.stand c.top_is_the_greatest.ensures.ends
