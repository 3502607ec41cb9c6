use Rattle.gb_types.specs.Common.{◌≡◌, rising}
use Rattle.gb_node.specs.NodeStep.{notice_each}
use Rattle.gb_node.proofs.taking.notice_each.Given as goal

abbrev pub invariant-loop-node : goal.invariant-loop-node
invariant-loop-node l = notice_each l.table l.node-iterator ≡ notice_each l.initial.table (rising l.found)
