use Rattle.gb_types.specs.Common.{◌≡◌, ◌+◌, ◌≤◌, ◌++◌, length, take, All, vec_len, vec_capacity}
use Rattle.gb_frame.specs.Spelling.{items_text, IsItem}
use Rattle.gb_frame.proofs.item.put_items.Given as goal

abbrev pub invariant-loop-item : goal.invariant-loop-item
invariant-loop-item l = record {
  so_far : l.text.items ≡ l.initial.text.items ++ items_text l.fn.version (take l.item-index l.items);
  len : vec_len l.text ≡ vec_len l.initial.text + length (items_text l.fn.version (take l.item-index l.items));
  capacity : vec_capacity l.initial.text ≤ vec_capacity l.text;
  fit : All (IsItem l.fn.version) (take l.item-index l.items);
}
