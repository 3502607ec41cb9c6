use Rattle.gb_types.specs.Common.{length}
use Rattle.gb_layer.proofs.plain.+set_of.Given as goal

abbrev pub decreases-set_of : goal.decreases-set_of
decreases-set_of l = length l.nodes.now
