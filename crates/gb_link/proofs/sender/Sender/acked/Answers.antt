use Rattle.gb_link.specs.Ack.{covers}
use Rattle.gb_link.proofs.WindowLemmas.{IsWindow-acknowledged, ascending-filter, filter_first}
use Rattle.gb_link.proofs.sender.Sender.acked.Goals as goal

pub invariant_of-self : goal.invariant_of-self
invariant_of-self g c = rw c.take_covered.ensures.left (IsWindow-acknowledged _ c.args.base c.args.mask c.self.invariant)

pub returns-clause-first : goal.returns-clause-first
returns-clause-first g c = rw (← c.self.view_is, c.take_covered.ensures.handed_out, c.take_covered.ensures.left) (filter_first (λ u. covers c.args.base c.args.mask u.0) c.self.inside.undone.items)

pub returns-clause-rising : goal.returns-clause-rising
returns-clause-rising g c = rw (← c.self.view_is) (ascending-filter (λ u. covers c.args.base c.args.mask u.0) 1 c.self.inside.undone.items c.self.invariant.ascending)
