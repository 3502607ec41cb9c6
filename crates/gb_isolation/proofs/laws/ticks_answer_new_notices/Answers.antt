use Rattle.gb_isolation.proofs.TickLawLemmas.{ticks_answer}
use Rattle.gb_isolation.proofs.laws.ticks_answer_new_notices.Goals as goal

pub returns : goal.returns
returns c = ticks_answer c.pasts_say.ensures c.answers_say.ensures
