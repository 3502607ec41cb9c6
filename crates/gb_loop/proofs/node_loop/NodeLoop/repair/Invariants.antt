use Rattle.gb_types.specs.Common.{◌≡◌}
use Rattle.gb_loop.proofs.node_loop.NodeLoop.repair.Given as goal

abbrev pub invariant-holes : goal.invariant-holes
invariant-holes g l = l.self.mail.origin ≡ l.fn.self.mail.origin
