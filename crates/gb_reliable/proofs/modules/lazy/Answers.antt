use Rattle.gb_reliable.specs.LazyLemmas.{lazy_broadcasts_as, lazy_delivers_as}
use Rattle.gb_reliable.proofs.modules.lazy.Goals as goal

pub returns-clause-broadcasts : goal.returns-clause-broadcasts
returns-clause-broadcasts c = lazy_broadcasts_as

pub returns-clause-delivers : goal.returns-clause-delivers
returns-clause-delivers c = lazy_delivers_as
