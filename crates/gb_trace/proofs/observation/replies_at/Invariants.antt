use Rattle.gb_types.specs.Common.{◌≡◌, take, option_copied}
use Rattle.gb_rules.specs.Common.{row_of}
use Rattle.gb_node.specs.Common.{tenants_in}
use Rattle.gb_isolation.specs.Project.{replies_in}
use Rattle.gb_trace.specs.NodeSteps.{past_in}
use Rattle.gb_trace.proofs.observation.replies_at.Given as goal

abbrev pub invariant-loop-i : goal.invariant-loop-i
invariant-loop-i l = (l.replies.items ≡ replies_in l.a l.addr (past_in l.a (take l.i l.node_steps))) × (option_copied l.row ≡ row_of l.addr.tenant (tenants_in (past_in l.a (take l.i l.node_steps))))
