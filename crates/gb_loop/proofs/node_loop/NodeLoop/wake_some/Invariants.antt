use Rattle.gb_types.specs.Common.{◌≡◌}
use Rattle.gb_loop.proofs.node_loop.NodeLoop.wake_some.Given as goal

abbrev pub invariant-waits : goal.invariant-waits
invariant-waits g l = l.self.mail.origin ≡ l.fn.self.mail.origin
