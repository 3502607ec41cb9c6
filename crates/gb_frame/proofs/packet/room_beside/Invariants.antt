use Rattle.gb_types.specs.Common.{◌≡◌, ◌+◌, ◌≤◌, length, take, All, limits_of}
use Rattle.gb_frame.specs.Room.{room_of}
use Rattle.gb_frame.specs.Spelling.{items_text}
use Rattle.gb_frame.proofs.packet.room_beside.Given as goal

abbrev pub invariant-loop-item : goal.invariant-loop-item
invariant-loop-item l = record {
  room : length (items_text l.fn.version (take l.item-index l.items)) + l.left ≡ room_of l.fn.version;
  payloads : All (λ i. length i.payload ≤ (limits_of l.fn.version).payload) (take l.item-index l.items);
}
