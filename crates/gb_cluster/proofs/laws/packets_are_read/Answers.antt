use Rattle.gb_cluster.proofs.ReadLemmas.{all_read}
use Rattle.gb_cluster.proofs.laws.packets_are_read.Goals as goal

pub returns : goal.returns
returns c = all_read c.packets_are_honest.ensures c.pasts_say.ensures
