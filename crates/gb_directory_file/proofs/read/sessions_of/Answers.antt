use Rattle.toml.specs.View.{view}
use Rattle.gb_directory_file.proofs.ListedLemmas.{not_listed}
use Rattle.gb_directory_file.proofs.read.sessions_of.Goals as goal

pub returns-in-Err-clause-refused : goal.returns-in-Err-clause-refused
returns-in-Err-clause-refused c = λ host port is. not_listed (view c.args.file.now) c.args.tenant c.args.node.number c.in-Err.fault host port c.in-Err.ensures.err is
