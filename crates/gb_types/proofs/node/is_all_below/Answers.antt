use Rattle.std.proofs.Common.{sym}
use Rattle.gb_types.proofs.CoverLemmas.{below_is, all_below}
use Rattle.gb_types.proofs.node.is_all_below.Goals as goal

pub returns-then-bound-ge-NODES : goal.returns-then-bound-ge-NODES
returns-then-bound-ge-NODES c = sym (all_below c.args.bits c.args.bound c.if-bound-ge-NODES.true)

pub returns : goal.returns
returns c = below_is c.args.bits c.args.bound c.ranges.bits.fits
