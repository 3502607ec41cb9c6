use Rattle.gb_types.specs.Common.{◌≡◌, ◌≤◌, take, drop, ◌&&◌, not, is_some, count_by}
use Rattle.gb_rules.specs.Common.{is_addr}
use Rattle.gb_table.proofs.groups.Groups.living_from.Given as goal

abbrev pub invariant-loop-nth : goal.invariant-loop-nth
invariant-loop-nth l = (l.living ≡ count_by (λ row. is_some row.slot && not (is_addr l.fn.addr row.addr)) (take l.nth (drop l.from l.self.rows))) × (l.living ≤ l.nth)
