use Rattle.gb_host.proofs.HereLemmas.{alone, alone_has}
use Rattle.gb_host.proofs.here.only.Goals as goal

pub returns-clause-has : goal.returns-clause-has
returns-clause-has c = alone_has c.new-here.result c.insert.new.self c.args.node.number c.new-here.ensures c.insert.ensures

pub returns-clause-others : goal.returns-clause-others
returns-clause-others c = λ k there. alone c.new-here.result c.insert.new.self c.args.node.number c.new-here.ensures c.insert.ensures k there
