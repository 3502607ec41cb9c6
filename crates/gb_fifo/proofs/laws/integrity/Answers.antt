use Rattle.gb_fifo.specs.FifoLemmas.{fifo_own, fifo_ups_handed_in, fifo_up_once}
use Rattle.gb_fifo.proofs.laws.integrity.Goals as goal

pub returns-clause-origin : goal.returns-clause-origin
returns-clause-origin g c = fifo_own g.L.Layer.next g.L.Layer.gives

pub returns-clause-handed_in : goal.returns-clause-handed_in
returns-clause-handed_in g c = fifo_ups_handed_in g.L.Layer.next g.L.Layer.gives (λ _. Unit {0})

pub returns-clause-once : goal.returns-clause-once
returns-clause-once g c = fifo_up_once g.L.Layer.next g.L.Layer.gives (λ _. Unit {0}) g.L.Layer.me
