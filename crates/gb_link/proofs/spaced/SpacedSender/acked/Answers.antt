use Rattle.gb_types.specs.Common.{arith}
use Rattle.gb_link.specs.Ack.{covers}
use Rattle.gb_link.proofs.WindowLemmas.{IsWindow-acknowledged, ascending-filter, filter_first}
use Rattle.gb_link.proofs.spaced.SpacedSender.acked.Goals as goal

pub invariant_of-self : goal.invariant_of-self
invariant_of-self g c = (
  rw c.take_covered.ensures.left (IsWindow-acknowledged _ c.args.base c.args.mask c.self.invariant.0),
  λ spaced. let room = c.self.invariant.1 spaced in let len = c.take_covered.ensures.len in let capacity = c.take_covered.ensures.capacity in omega (arith, room, len, capacity),
)

pub returns-clause-first : goal.returns-clause-first
returns-clause-first g c = rw (← c.self.view_is, c.take_covered.ensures.handed_out, c.take_covered.ensures.left) (filter_first (λ u. covers c.args.base c.args.mask u.0) c.self.inside.undone.items)

pub returns-clause-rising : goal.returns-clause-rising
returns-clause-rising g c = rw (← c.self.view_is) (ascending-filter (λ u. covers c.args.base c.args.mask u.0) 1 c.self.inside.undone.items c.self.invariant.0.ascending)
