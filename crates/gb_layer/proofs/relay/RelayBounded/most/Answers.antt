use Rattle.gb_types.specs.Common.{arith}
use Rattle.gb_layer.specs.RelayColumn.{state_of}
use Rattle.gb_layer.proofs.ColumnLemmas.{length-zipped}
use Rattle.gb_layer.proofs.BoundLemmas.{relay_sends_few, relay_ups_few}
use Rattle.gb_layer.proofs.relay.RelayBounded.most.Goals as goal

pub returns-clause-sends : goal.returns-clause-sends
returns-clause-sends g c = λ ms n w call k.
    let L = g.L.Layer in
    let self = c.args.self.now in
    let few = relay_sends_few L.next L.gives L.me g.R.Rule.rules g.met.L.Single.sends_one (state_of L.meaning ms self) call in
    let len = length-zipped ms self.column.items k.knows.within in
    let ok = self.column.ok.0 in
    let places = c.len-places.ensures in
    omega (arith, few, len, ok, places)

pub returns-clause-ups : goal.returns-clause-ups
returns-clause-ups g c = λ ms n w call k.
    let L = g.L.Layer in
    let self = c.args.self.now in
    let few = relay_ups_few L.next L.gives L.me g.R.Rule.rules (state_of L.meaning ms self) call in
    let len = length-zipped ms self.column.items k.knows.within in
    let ok = self.column.ok.0 in
    let places = c.len-places.ensures in
    omega (arith, few, len, ok, places)

pub overflow_add-result : goal.overflow_add-result
overflow_add-result g c =
    let small = c.args.self.now.column.small in
    let places = c.len-places.ensures in
    omega (arith, small, places)

pub overflow_add-result-2 : goal.overflow_add-result-2
overflow_add-result-2 g c =
    let small = c.args.self.now.column.small in
    let places = c.len-places.ensures in
    omega (arith, small, places)
