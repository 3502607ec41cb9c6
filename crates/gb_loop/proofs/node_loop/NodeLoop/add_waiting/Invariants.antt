use Rattle.gb_types.specs.Common.{◌≡◌}
use Rattle.gb_loop.proofs.node_loop.NodeLoop.add_waiting.Given as goal

abbrev pub invariant-groups : goal.invariant-groups
invariant-groups g l = l.self.mail.origin ≡ l.fn.self.mail.origin
