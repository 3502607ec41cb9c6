use Rattle.gb_types.specs.Common.{◌≡◌, refl, ap}
use Rattle.gb_fifo.specs.FifoLemmas.{lower_after}
use Rattle.gb_fifo.proofs.FifoOrderLemmas.{call_order, fifo_order}
use Rattle.gb_fifo.proofs.laws.in_origin_order.Goals as goal

pub returns-clause-up : goal.returns-clause-up
returns-clause-up g c = λ s law new past call. call_order g.L.Layer.next g.L.Layer.gives (λ t. t ≡ s.lower) law s (record { lower = refl; entries = new }) past call

pub returns-clause-out : goal.returns-clause-out
returns-clause-out g c = λ s past call. ap (λ l. (g.L.Layer.gives l call).sends) (lower_after g.L.Layer.next g.L.Layer.gives s past)

pub returns-clause-log : goal.returns-clause-log
returns-clause-log g c = λ s law new past. fifo_order g.L.Layer.next g.L.Layer.gives (λ t. t ≡ s.lower) law s (record { lower = refl; entries = new }) past
