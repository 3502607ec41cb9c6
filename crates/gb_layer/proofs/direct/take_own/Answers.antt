use Rattle.gb_types.specs.Common.{rules}
use Rattle.gb_layer.specs.Own.{own_name, own_inner}
use Rattle.gb_layer.proofs.direct.take_own.Goals as goal

pub returns-clause-out : goal.returns-clause-out
returns-clause-out g c = search (rules, own_name, own_inner)
