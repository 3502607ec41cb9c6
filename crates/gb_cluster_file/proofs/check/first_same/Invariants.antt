use Rattle.gb_types.specs.Common.{◌≡◌, ℕ, ◌<◌, Some}
use Rattle.toml.specs.{Data.Data, Data.get_item, View.view, View.items_view}
use Rattle.gb_cluster_file.specs.Cluster.{IsSame}
use Rattle.gb_cluster_file.proofs.check.first_same.Given as goal

abbrev pub invariant-loop-first : goal.invariant-loop-first
invariant-loop-first l = (k : ℕ) (one : Data) → k < l.first → get_item k (items_view l.values) ≡ Some one → IsSame l.field one (view l.last) → ⊥
