use Rattle.gb_types.specs.Common.{[], rules}
use Rattle.gb_table.proofs.index.no_places.Goals as goal

pub returns : goal.returns
returns c = λ d p l. let h = c.from_fn.ensures.items.at d [] l in search rules
