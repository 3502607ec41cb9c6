use Rattle.gb_types.specs.Common.{◌≡◌, ◌<◌, ◌≤◌, ◌-◌, ℕ, length}
use Rattle.gb_slot.specs.Common.{slot_noticed}
use Rattle.gb_table.specs.SlotsValue.{row_at, on_slot}
use Rattle.gb_table.proofs.groups.Groups.notice.Given as goal

abbrev pub invariant-loop-place : goal.invariant-loop-place
invariant-loop-place l = record {
  length : length l.self.rows ≡ length l.fn.self.rows;
  before : (p : ℕ) → p < l.from → row_at l.self.rows p ≡ on_slot (slot_noticed l.who) (row_at l.fn.self.rows p);
  later : (p : ℕ) → l.from ≤ p → row_at l.self.rows p ≡ row_at l.fn.self.rows p;
  rooms : l.self.rooms ≡ l.fn.self.rooms;
  cursors : l.self.cursors ≡ l.fn.self.cursors;
}

abbrev pub decreases-loop-place : goal.decreases-loop-place
decreases-loop-place l = length l.fn.self.rows - l.from
