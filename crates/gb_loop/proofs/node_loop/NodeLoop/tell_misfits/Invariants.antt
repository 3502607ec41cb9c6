use Rattle.gb_types.specs.Common.{◌≡◌}
use Rattle.gb_loop.proofs.node_loop.NodeLoop.tell_misfits.Given as goal

abbrev pub invariant-nodes : goal.invariant-nodes
invariant-nodes g l = l.self.mail.origin ≡ l.fn.self.mail.origin
