use Rattle.gb_delivery.proofs.RoundLemmas.{round_trips}
use Rattle.gb_delivery.proofs.laws.round_trips_are_rounds.Goals as goal

pub returns : goal.returns
returns c = round_trips c.pasts_say.ensures c.answers_acknowledge.ensures
