use Rattle.gb_types.specs.Common.{◌≡◌}
use Rattle.gb_loop.proofs.node_loop.NodeLoop.run.Given as goal

abbrev pub invariant-rounds : goal.invariant-rounds
invariant-rounds g l = l.self.mail.origin ≡ l.fn.self.mail.origin
