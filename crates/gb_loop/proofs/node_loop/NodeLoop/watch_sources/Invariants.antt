use Rattle.gb_types.specs.Common.{◌≡◌}
use Rattle.gb_loop.proofs.node_loop.NodeLoop.watch_sources.Given as goal

abbrev pub invariant-sources : goal.invariant-sources
invariant-sources g l = l.self.mail.origin ≡ l.fn.self.mail.origin
