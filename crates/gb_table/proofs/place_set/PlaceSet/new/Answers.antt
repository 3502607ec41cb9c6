use Rattle.gb_types.specs.Common.{◌∙◌, ℕ, List, [], ap, arith}
use Rattle.gb_table.specs.PlaceSet.{has}
use Rattle.gb_table.proofs.PlaceSetLemmas.{has-past}
use Rattle.gb_table.proofs.place_set.PlaceSet.new.Goals as goal

pub returns : goal.returns
returns c = λ p. ap (λ (ws : List ℕ). has ws p) c.new.ensures.items ∙ has-past [] p (omega arith)
