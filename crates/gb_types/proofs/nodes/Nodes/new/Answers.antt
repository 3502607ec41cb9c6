use Rattle.gb_types.proofs.RisingLemmas.{rising_from-start}
use Rattle.gb_types.proofs.nodes.Nodes.new.Goals as goal

pub returns : goal.returns
returns c = rising_from-start c.args.set.now
