use Rattle.gb_types.specs.Common.{◌≡◌}
use Rattle.gb_loop.proofs.node_loop.NodeLoop.answer_last.Given as goal

abbrev pub invariant-turns : goal.invariant-turns
invariant-turns g l = l.self.mail.origin ≡ l.fn.self.mail.origin
