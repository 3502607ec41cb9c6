use Rattle.gb_types.specs.Common.{get_or-replicate}
use Rattle.gb_types.specs.declared.limits.TheConstants.{NODES}
use Rattle.gb_fifo.proofs.marks.Marks.new.Goals as goal

pub returns-clause-counted : goal.returns-clause-counted
returns-clause-counted c = λ origin h. get_or-replicate NODES origin 0 0 h
