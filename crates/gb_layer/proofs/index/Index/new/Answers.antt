use Rattle.gb_types.specs.Common.{ap, sym, ◌∙◌, get_or-replicate}
use Rattle.gb_types.specs.declared.limits.TheConstants.{NODES}
use Rattle.gb_layer.specs.Last.{last_of}
use Rattle.gb_layer.proofs.index.Index.new.Goals as goal

pub invariant_of-result-clause-greatest : goal.invariant_of-result-clause-greatest
invariant_of-result-clause-greatest c = λ origin h. get_or-replicate NODES origin 0 0 h ∙ ap (last_of origin) (sym c.new.ensures.items)
