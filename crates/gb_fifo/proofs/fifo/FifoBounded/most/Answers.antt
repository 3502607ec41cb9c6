use Rattle.gb_types.specs.Common.{arith}
use Rattle.gb_layer.specs.Common.{length-paired}
use Rattle.gb_fifo.specs.Marks.{entry_of, marked}
use Rattle.gb_fifo.proofs.FifoBoundLemmas.{fifo_ups_few}
use Rattle.gb_fifo.proofs.fifo.FifoBounded.most.Goals as goal

pub returns-clause-sends : goal.returns-clause-sends
returns-clause-sends g c = λ ms n w call k. c.most-below.ensures.sends ms n w call k.lower

pub returns-clause-ups : goal.returns-clause-ups
returns-clause-ups g c = λ ms n w call k.
    let L = g.L.Layer in
    let self = c.args.self.now in
    let few = fifo_ups_few (L.gives (L.meaning ms self.lower) call).ups call (marked ms self.marks.list.items) in
    let count = k.count in
    let within = k.within in
    let len = length-paired entry_of ms self.marks.list.items (omega (arith, count, within)) in
    let ok = self.marks.list.ok.0 in
    let places = c.len-places.ensures in
    omega (arith, few, len, ok, places)

pub overflow_add-result : goal.overflow_add-result
overflow_add-result g c =
    let small = c.args.self.now.marks.list.small in
    let places = c.len-places.ensures in
    omega (arith, small, places)
