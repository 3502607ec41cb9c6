use Rattle.gb_redact.proofs.TokenLemmas.{leave_nothing}
use Rattle.gb_redact.proofs.laws.denied_leave_nothing.Goals as goal

pub returns : goal.returns
returns c = leave_nothing
