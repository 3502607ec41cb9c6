use Rattle.gb_types.specs.Common.{◌≡◌}
use Rattle.gb_loop.proofs.node_loop.NodeLoop.release.Given as goal

abbrev pub invariant-held : goal.invariant-held
invariant-held g l = l.self.mail.origin ≡ l.fn.self.mail.origin
