use Rattle.gb_types.specs.Common.{arith}
use Rattle.gb_layer.proofs.LastLemmas.{none_above}
use Rattle.gb_layer.proofs.index.Index.find.Goals as goal

pub returns-then-m-last : goal.returns-then-m-last
returns-then-m-last c =
    let last = c.last.ensures in
    let test = c.if-m-last.true in
    none_above c.args.m c.args.self.now.list.items (omega (arith, last, test))
