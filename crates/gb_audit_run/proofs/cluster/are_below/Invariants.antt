use Rattle.gb_types.specs.Common.{take, ◌<◌, All}
use Rattle.gb_audit_run.proofs.cluster.are_below.Given as goal

abbrev pub invariant-loop-head : goal.invariant-loop-head
invariant-loop-head l = All (λ h. h.node.number < l.nodes) (take l.head-index l.heads)
