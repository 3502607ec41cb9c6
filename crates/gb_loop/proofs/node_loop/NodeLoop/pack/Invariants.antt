use Rattle.gb_types.specs.Common.{◌≡◌}
use Rattle.gb_loop.proofs.node_loop.NodeLoop.pack.Given as goal

abbrev pub invariant-frames : goal.invariant-frames
invariant-frames g l = l.self.mail.origin ≡ l.fn.self.mail.origin
