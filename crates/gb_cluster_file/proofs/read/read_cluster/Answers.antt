use Rattle.toml.specs.View.{table_view}
use Rattle.gb_cluster_file.proofs.FaultLemmas.{no_file, refused_by_document}
use Rattle.gb_cluster_file.proofs.read.read_cluster.Goals as goal

pub returns-in-Ok-clause-refused : goal.returns-in-Ok-clause-refused
returns-in-Ok-clause-refused c = refused_by_document c.cluster_of.result c.args.text.now (table_view c.in-Ok.table) c.in-Ok.ensures.ok c.cluster_of.ensures.err

pub returns-in-Err-clause-refused : goal.returns-in-Err-clause-refused
returns-in-Err-clause-refused c = λ some file is. no_file c.args.text.now c.fault_from.result file (c.fault_from.ensures c.args.text.now c.in-Err.ensures.refused c.in-Err.ensures.span) some is
