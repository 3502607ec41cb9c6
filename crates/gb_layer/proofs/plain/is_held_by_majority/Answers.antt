use Rattle.gb_types.specs.Common.{◌∙◌, has_majority}
use Rattle.std.specs.FinSet as set
use Rattle.gb_layer.specs.Machine.{numbers}
use Rattle.gb_layer.specs.Modules as modules
use Rattle.gb_layer.proofs.ListedLemmas.{majority_listed}
use Rattle.gb_layer.proofs.plain.is_held_by_majority.Goals as goal

pub returns : goal.returns
returns c =
    c.has_majority_of.ensures
    ∙ ((λ i. has_majority (set.contains (c.set_of.ensures i)) (set.contains (c.holders.ensures i)))
    ∙ majority_listed (λ p. modules.holds c.args.me.number c.args.history.now p c.args.m) (numbers c.args.members.now))
