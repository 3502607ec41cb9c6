use Rattle.std.proofs.Common.{◌/◌, nat_lt, ◌∙◌}
use Rattle.gb_types.proofs.MajorityLemmas.{majority_is}
use Rattle.gb_types.proofs.node.NodeSet.has_majority_of.Goals as goal

pub returns : goal.returns
returns c = (λ i. nat_lt (c.count_in-2.ensures i / 2) (c.count_in.ensures i)) ∙ majority_is c.args.members.now c.args.self.now
