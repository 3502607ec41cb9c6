use Rattle.gb_types.specs.Common.{◌≡◌}
use Rattle.gb_loop.proofs.node_loop.NodeLoop.accept.Given as goal

abbrev pub invariant-accepts : goal.invariant-accepts
invariant-accepts g l = l.self.mail.origin ≡ l.fn.self.mail.origin
