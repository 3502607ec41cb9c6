use Rattle.gb_types.specs.Common.{◌≡◌}
use Rattle.gb_loop.proofs.node_loop.NodeLoop.hear_all.Given as goal

abbrev pub invariant-events : goal.invariant-events
invariant-events g l = l.self.mail.origin ≡ l.fn.self.mail.origin
