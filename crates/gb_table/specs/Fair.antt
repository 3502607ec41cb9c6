-- The effect of a packing on each group by itself.
use Rattle.std.specs.Prelude.{◌≡◌, ◌≢◌, Bool, ℕ, ◌≤◌, List, length, sum_by, take, drop, map, filter}
use Rattle.gb_frame.specs.declared.item.Item.{Item}
use Rattle.gb_frame.specs.Common.{names}
use Rattle.gb_types.specs.declared.version.Version.{Version}
use Rattle.gb_table.specs.SlotsValue.{Row, row_at}
use Rattle.gb_table.specs.Packing.{Visit, size, items, item_of, queue, share, took}
use Rattle.gb_table.specs.GroupsValue.{GroupsValue, batch, packed}

-- the item names the group
abbrev pub is_of : Row → Item → Bool
is_of row i = names row.addr i

-- The items of a group in a batch are the first of its waiting items, in order, and the rest still waits. The items that wait for other nodes stay,
-- and nothing else of the group changed.
pub record IsFront (version : Version) (dest room : ℕ) (t : GroupsValue) (p : ℕ) : Type 0 where
  pub front : filter (is_of (row_at t.rows p)) (items t.rows (batch version dest room t)) ≡ map (item_of (row_at t.rows p)) (take (share p (batch version dest room t)) (queue dest (row_at t.rows p)))
  pub rest : queue dest (row_at (packed version dest room t).rows p) ≡ drop (share p (batch version dest room t)) (queue dest (row_at t.rows p))
  pub others : (d : ℕ) → d ≢ dest → queue d (row_at (packed version dest room t).rows p) ≡ queue d (row_at t.rows p)
  pub row : row_at (packed version dest room t).rows p ≡ took dest (share p (batch version dest room t)) (row_at t.rows p)

-- the items fit into the room, and no longer front of the walk fits
pub record IsLongest (version : Version) (room : ℕ) (vs : List Visit) (batch : List Visit) : Type 0 where
  pub front : take (length batch) vs ≡ batch
  pub fits : sum_by (size version) batch ≤ room
  pub longest : (k : ℕ) → k ≤ length vs → sum_by (size version) (take k vs) ≤ room → k ≤ length batch
