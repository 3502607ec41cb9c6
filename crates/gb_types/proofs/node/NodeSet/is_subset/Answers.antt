use Rattle.std.proofs.Common.{◌∙◌}
use Rattle.gb_types.proofs.CoverLemmas.{subset_is}
use Rattle.gb_types.proofs.node.NodeSet.is_subset.Goals as goal

pub returns : goal.returns
returns c = let h = c.is_within.ensures in rw (← c.self.view_is, ← c.other.view_is) (h ∙ subset_is _ _)
