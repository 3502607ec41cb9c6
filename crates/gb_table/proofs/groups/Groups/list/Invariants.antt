use Rattle.gb_types.specs.Common.{◌≡◌, ◌≤◌, ◌+◌, ◌++◌, length, map, take, drop, min, vec_len, vec_capacity}
use Rattle.gb_table.specs.GroupRows.{listed, used, listed_from}
use Rattle.gb_table.proofs.groups.Groups.list.Given as goal

abbrev pub invariant-loop-place : goal.invariant-loop-place
invariant-loop-place l =
    (vec_len l.rows + l.left ≡ l.most) × (vec_len l.rows ≤ l.place) × (min l.most (length l.self.rows) ≤ vec_capacity l.rows)
    × (l.rows.items ++ map listed (take l.left (drop l.before (used (drop l.place l.self.rows)))) ≡ listed_from l.self.rows l.from l.most)
