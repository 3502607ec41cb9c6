use Rattle.gb_cluster.proofs.OutsideLemmas.{nothing_is_outside}
use Rattle.gb_cluster.proofs.laws.nothing_is_outside.Goals as goal

pub returns : goal.returns
returns c = nothing_is_outside c.packets_say.ensures.senders c.pasts_say.ensures c.packets_are_honest.ensures c.links_hold.ensures
