use Rattle.gb_types.proofs.CountLemmas.{both_counted}
use Rattle.gb_types.proofs.node.count_both.Goals as goal

pub returns : goal.returns
returns c = both_counted c.args.bits c.args.other c.ranges.bits.fits c.ranges.other.fits
