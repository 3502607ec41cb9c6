use Rattle.gb_types.specs.Common.{◌+◌, ◌++◌, ◌∷◌, [], arith}
use Rattle.gb_layer.proofs.TableLemmas.{leads_said, leads_nothing, leads_unsaid}
use Rattle.gb_layer.proofs.table.Table.note.Goals as goal

pub returns-then-count-from : goal.returns-then-count-from
returns-then-count-from c = λ ms len n leads.
    let t = c.args.self.now in
    leads_said t.width t.told.items c.args.m ms c.in-Some.at (c.args.count + 1) c.in-Some.ensures.0 c.in-Some.ensures.1 c.in-Some.ensures.2 (omega (arith, len)) n leads

pub returns-else-count-from : goal.returns-else-count-from
returns-else-count-from c = λ ms len n leads. leads_nothing c.args.self.now.told.items 0 (ms ++ c.args.m ∷ [])

pub returns-in-None : goal.returns-in-None
returns-in-None c = λ ms len n leads.
    let t = c.args.self.now in
    leads_unsaid t.width t.told.items c.args.m ms c.in-None.ensures leads
