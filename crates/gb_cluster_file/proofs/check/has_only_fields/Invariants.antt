use Rattle.gb_types.specs.Common.{◌≡◌, true, List, ◌++◌}
use Rattle.toml.specs.View.{members_view}
use Rattle.toml.proofs.Views.{Entry}
use Rattle.gb_cluster_file.specs.Cluster.{all_keys}
use Rattle.gb_cluster_file.specs.Fields.{is_name}
use Rattle.gb_cluster_file.proofs.check.has_only_fields.Given as goal

abbrev pub invariant-loop-key : goal.invariant-loop-key
invariant-loop-key l = (done : List Entry) × (l.table.entries ≡ done ++ l.key-iterator) × (all_keys is_name (members_view done) ≡ true)
