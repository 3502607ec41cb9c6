use Rattle.gb_types.specs.Common.{◌≡◌, ℕ, ◌<◌, Some}
use Rattle.toml.specs.{Data.Data, Data.get_item, View.items_view}
use Rattle.gb_cluster_file.specs.Cluster.{IsSame}
use Rattle.gb_cluster_file.proofs.check.differ.Given as goal

abbrev pub invariant-loop-node : goal.invariant-loop-node
invariant-loop-node l = (k n : ℕ) (one other : Data) → n < l.node → k < n → get_item k (items_view l.values) ≡ Some one → get_item n (items_view l.values) ≡ Some other → IsSame l.field one other → ⊥
