use Rattle.gb_types.specs.Common.{◌≡◌}
use Rattle.gb_loop.proofs.node_loop.NodeLoop.receive.Given as goal

abbrev pub invariant-packets : goal.invariant-packets
invariant-packets g l = l.self.mail.origin ≡ l.fn.self.mail.origin
