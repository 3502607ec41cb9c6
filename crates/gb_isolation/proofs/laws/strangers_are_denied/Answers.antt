use Rattle.gb_isolation.proofs.StrangerLemmas.{strangers_denied}
use Rattle.gb_isolation.proofs.laws.strangers_are_denied.Goals as goal

pub returns : goal.returns
returns c = strangers_denied c.answers_say.ensures
