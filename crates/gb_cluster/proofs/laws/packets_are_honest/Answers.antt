use Rattle.gb_cluster.proofs.HonestLemmas.{all_honest}
use Rattle.gb_cluster.proofs.laws.packets_are_honest.Goals as goal

pub returns : goal.returns
returns c =
    let sent = c.packets_say.ensures in
    all_honest (record { packets = sent.packets; reached = sent.reached; batches = sent.batches; inside = sent.inside; read = sent.read }) c.pasts_say.ensures
