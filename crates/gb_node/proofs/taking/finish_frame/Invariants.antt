use Rattle.gb_types.specs.Common.{◌≡◌, fold}
use Rattle.gb_frame.specs.Common.{batch_in}
use Rattle.gb_node.specs.NodeStep.{item_done}
use Rattle.gb_node.proofs.taking.finish_frame.Given as goal

abbrev pub invariant-loop-item : goal.invariant-loop-item
invariant-loop-item l = fold (item_done l.by) l.table l.item-iterator ≡ fold (item_done l.by) l.initial.table (batch_in l.fn.version l.texts)
