use Rattle.gb_types.specs.Common.{[], rules}
use Rattle.gb_types.specs.declared.limits.TheConstants.{NODES}
use Rattle.gb_alone.proofs.ObservationLemmas.{all_empty}
use Rattle.gb_alone.proofs.member.no_marks.Goals as goal

pub returns : goal.returns
returns c = all_empty NODES c.from_fn.result c.from_fn.ensures.items.long (λ i l. let h = c.from_fn.ensures.items.at i [] l in search rules)
