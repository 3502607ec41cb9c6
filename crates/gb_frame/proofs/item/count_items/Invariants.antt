use Rattle.gb_types.specs.Common.{◌≡◌, ◌+◌, ◌*◌, ◌≤◌, List, length}
use Rattle.gb_frame.specs.declared.item.Item.{Item}
use Rattle.gb_frame.specs.Spelling.{AreTexts}
use Rattle.gb_frame.proofs.item.count_items.Given as goal

abbrev pub invariant-loop-item : goal.invariant-loop-item
invariant-loop-item l = record {
  so_far : (items : List Item) → AreTexts l.fn.version l.texts items → (left : List Item) × AreTexts l.fn.version l.rest left × (l.count + length left ≡ length items);
  few : 9 * l.count + length l.rest ≤ length l.texts;
}

abbrev pub decreases-loop-item : goal.decreases-loop-item
decreases-loop-item l = length l.rest
