use Rattle.gb_types.specs.Common.{◌∙◌, ap, sym}
use Rattle.gb_frame.specs.Common.{Content}
use Rattle.gb_node.specs.Common.{node_numbered}
use Rattle.gb_node.proofs.TookLemmas.{numbered_is}
use Rattle.gb_trace.proofs.reading.sender.Goals as goal

pub returns-clause-node : goal.returns-clause-node
returns-clause-node c = sym (numbered_is c.head.result.from) ∙ ap (λ (p : Content). node_numbered p.from) c.head.ensures
