-- The words that the sets of the nodes have.
use Rattle.std.specs.Prelude.{ℕ, ◌≡◌, ◌≤◌, ◌<◌, ◌*◌, true, List, [], length, slice_index_or}
use Rattle.std.specs.FinSet as set
use Rattle.std.specs.Ordering.{nat_cmp}
use Rattle.gb_types.specs.declared.limits.TheConstants.{NODES}
use Rattle.gb_table.specs.PlaceSet.{has}

-- before a bound, the set of each of these nodes has a word for a place
pub record HaveWord (bound place : ℕ) (members : set.FinSet nat_cmp) (sets : List (List ℕ)) : Type 0 where
  pub each : (who : ℕ) → who < bound → set.contains members who ≡ true → place < 64 * length (slice_index_or sets who [])

-- each set has the same places as before, and at least as many words
pub record HaveGrown (old new : List (List ℕ)) : Type 0 where
  pub size : length new ≡ length old
  pub same : (who p : ℕ) → has (slice_index_or new who []) p ≡ has (slice_index_or old who []) p
  pub longer : (who : ℕ) → length (slice_index_or old who []) ≤ length (slice_index_or new who [])

-- for each node, its second set has words for all places of its first
pub record AreCovered (first second : List (List ℕ)) : Type 0 where
  pub each : (who p : ℕ) → who < NODES → has (slice_index_or first who []) p ≡ 1 → p < 64 * length (slice_index_or second who [])
