use Rattle.gb_redact.proofs.TokenLemmas.{right_so}
use Rattle.gb_redact.proofs.laws.right_stay_right.Goals as goal

pub returns : goal.returns
returns c = right_so
