use Rattle.gb_types.specs.Common.{length}
use Rattle.gb_layer.proofs.plain.+holders.Given as goal

abbrev pub decreases-holders : goal.decreases-holders
decreases-holders l = length l.nodes.now
