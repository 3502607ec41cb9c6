-- The numbers of a set of nodes, in order.
use Rattle.std.specs.Prelude.{◌≡◌, ℕ, ◌-◌, ◌<◌, true, List, filter}
use Rattle.std.specs.{List.range_with_len, Ordering.nat_cmp}
use Rattle.std.specs.FinSet as set
use Rattle.gb_types.specs.declared.limits.TheConstants.{NODES}

-- each number of the set is a node's number
abbrev pub AreNodes : set.FinSet nat_cmp → Type 0
AreNodes s = (q : ℕ) → set.contains s q ≡ true → q < NODES

-- the nodes of a set, rising
unfoldable pub rising : set.FinSet nat_cmp → List ℕ
rising s = filter (set.contains s) (range_with_len 0 NODES)

-- the nodes of a set from a number on, rising
unfoldable pub rising_from : set.FinSet nat_cmp → ℕ → List ℕ
rising_from s low = filter (set.contains s) (range_with_len low (NODES - low))
