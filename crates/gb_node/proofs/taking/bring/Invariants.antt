use Rattle.gb_types.specs.Common.{◌≡◌, fold}
use Rattle.gb_node.specs.NodeStep.{item_comes}
use Rattle.gb_node.proofs.taking.bring.Given as goal

abbrev pub invariant-loop-item : goal.invariant-loop-item
invariant-loop-item l = fold (item_comes l.from) l.table l.item-iterator ≡ fold (item_comes l.from) l.initial.table l.packet.items
