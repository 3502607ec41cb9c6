use Rattle.gb_types.specs.Common.{◌∙◌, ap, sym}
use Rattle.toml.specs.{Data.array, View.items_view}
use Rattle.gb_cluster_file.proofs.ViewLemmas.{array_is}
use Rattle.gb_cluster_file.proofs.check.values_of.Goals as goal

pub returns-in-Some-clause-some : goal.returns-in-Some-clause-some
returns-in-Some-clause-some c = array_is _ _ c.in-Some.ensures ∙ ap (λ vs. array (items_view vs)) (sym c.as_slice.ensures.value)
