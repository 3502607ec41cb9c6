use Rattle.gb_fifo.proofs.NumberLemmas.{one_two_three}
use Rattle.gb_fifo.proofs.laws.one_two_three.Goals as goal

pub returns : goal.returns
returns g c = λ s past new. one_two_three g.L.Layer.next g.L.Layer.gives s new past
