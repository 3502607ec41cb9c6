use Rattle.gb_trace.proofs.LogLemmas.{logs_shown}
use Rattle.gb_trace.proofs.laws.logs_are_shown.Goals as goal

pub returns : goal.returns
returns c = logs_shown c.logs_may_be_fetched.ensures
