-- Notices change neither the node's version nor its frames.
use Rattle.gb_types.specs.Common.{rising}
use Rattle.gb_node.proofs.VersionLemmas.{noticed_keeps}
use Rattle.gb_node.proofs.node.Node.tick.Goals as goal

pub invariant_of-self : goal.invariant_of-self
invariant_of-self c = rw c.notice_each.ensures (noticed_keeps c.self.inside.table (rising c.tick-found.result) c.self.inside.windows c.self.invariant)
