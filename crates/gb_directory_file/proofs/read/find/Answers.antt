use Rattle.gb_directory_file.proofs.read.find.Goals as goal

pub returns-in-Err-clause-err : goal.returns-in-Err-clause-err
returns-in-Err-clause-err c = c.in-Err.ensures.err c.args.node.number

pub returns-in-Err-nodes_of-clause-err : goal.returns-in-Err-nodes_of-clause-err
returns-in-Err-nodes_of-clause-err c = c.in-Err-nodes_of.ensures.err c.args.tenant c.args.node.number c.in-Ok.ensures.ok
