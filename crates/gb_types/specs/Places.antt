-- Words with a bit for each node, and the sets that they represent.
use Rattle.std.specs.Prelude.{ℕ, ◌*◌, Bool, ◌&&◌, count_by, nat_eq, nat_lt, List, [], ◌∷◌}
use Rattle.std.specs.{Int.bit_at, Ordering.nat_cmp}
use Rattle.std.specs.FinSet as set
use Rattle.gb_types.specs.declared.limits.TheConstants.{NODES}
use Prim.Native.Nat.{zero, suc}

-- the numbers below n, the greatest first
abbrev pub below : ℕ → List ℕ
below zero = []
below (suc n) = n ∷ below n

-- the nodes whose bits in the word are 1
unfoldable pub of_bits : ℕ → set.FinSet nat_cmp
of_bits bits = set.retain (set.from_list (below NODES)) (λ i. nat_eq (bit_at bits i) 1)

-- the number of nodes in both sets
abbrev pub common : set.FinSet nat_cmp → set.FinSet nat_cmp → ℕ
common some other = count_by (λ p. set.contains some p && set.contains other p) (below NODES)

-- more than half of the members pass the test
abbrev pub has_majority : (ℕ → Bool) → (ℕ → Bool) → Bool
has_majority is_member test = nat_lt (count_by is_member (below NODES)) (2 * count_by (λ p. is_member p && test p) (below NODES))
