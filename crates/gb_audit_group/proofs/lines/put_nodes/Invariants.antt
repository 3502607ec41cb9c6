use Rattle.gb_types.specs.Common.{◌≡◌, ◌++◌, drop}
use Rattle.gb_audit_group.specs.GroupText.{lines_from, node_lines}
use Rattle.gb_audit_group.proofs.lines.put_nodes.Given as goal

abbrev pub invariant-loop-node : goal.invariant-loop-node
invariant-loop-node l = l.out.items ++ lines_from l.addr l.word l.node (drop l.node l.nodes) ≡ l.initial.out.items ++ node_lines l.addr l.word l.nodes
