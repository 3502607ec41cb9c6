use Rattle.gb_cluster.proofs.LinkLemmas.{links_hold}
use Rattle.gb_cluster.proofs.laws.links_hold.Goals as goal

pub returns : goal.returns
returns c = links_hold c.pasts_say.ensures c.packets_are_honest.ensures
