use Rattle.gb_delivery.proofs.RoundLemmas.{carries}
use Rattle.gb_delivery.proofs.laws.rounds_carry.Goals as goal

pub returns : goal.returns
returns c = carries c.nobody_starves_in_runs.ensures.items
