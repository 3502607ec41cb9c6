use Rattle.gb_types.specs.Common.{arith}
use Rattle.gb_layer.proofs.LastLemmas.{none_beyond}
use Rattle.gb_layer.proofs.index.Index.find_next.Goals as goal

pub returns-then-count-last : goal.returns-then-count-last
returns-then-count-last c =
    let last = c.last.ensures in
    let test = c.if-count-last.true in
    none_beyond c.args.origin c.args.count c.args.self.now.list.items (omega (arith, last, test))
