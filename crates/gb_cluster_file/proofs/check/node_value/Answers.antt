use Rattle.gb_types.specs.Common.{codes}
use Rattle.toml.proofs.Views.{table_get}
use Rattle.gb_cluster_file.proofs.check.node_value.Goals as goal

pub returns : goal.returns
returns c = table_get c.get.result (codes "node") c.args.table.now.entries c.get.ensures.value
