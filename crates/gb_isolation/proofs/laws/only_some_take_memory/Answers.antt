use Rattle.gb_isolation.proofs.StrangerLemmas.{some_take_memory}
use Rattle.gb_isolation.proofs.laws.only_some_take_memory.Goals as goal

pub returns : goal.returns
returns c = some_take_memory c.answers_say.ensures
