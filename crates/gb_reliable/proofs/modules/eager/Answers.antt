use Rattle.gb_reliable.specs.EagerLemmas.{eager_broadcasts_as, eager_delivers_as}
use Rattle.gb_reliable.proofs.modules.eager.Goals as goal

pub returns-clause-broadcasts : goal.returns-clause-broadcasts
returns-clause-broadcasts c = eager_broadcasts_as

pub returns-clause-delivers : goal.returns-clause-delivers
returns-clause-delivers c = eager_delivers_as
