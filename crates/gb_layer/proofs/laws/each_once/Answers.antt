use Rattle.gb_layer.proofs.EachOnceLemmas.{each_once}
use Rattle.gb_layer.proofs.laws.each_once.Goals as goal

pub returns : goal.returns
returns g c = each_once g.L.Layer.next g.L.Layer.gives g.L.Layer.is_fresh g.L.Layer.me g.met.L.Broadcast.own_via g.met.L.Lawful.up_once
