-- A node that is started has sent nothing.
use Rattle.gb_node.proofs.VersionLemmas.{started_keeps}
use Rattle.gb_node.proofs.node.Node.start.Goals as goal

pub invariant_of-result : goal.invariant_of-result
invariant_of-result c = rw (c.new-2.ensures, c.new_windows.ensures) (started_keeps c.args.plan.now c.requires.cluster c.requires.member)
