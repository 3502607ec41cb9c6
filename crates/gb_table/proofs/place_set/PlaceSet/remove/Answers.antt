use Rattle.gb_types.specs.Common.{ℕ, List, length, ap, arith}
use Rattle.gb_table.proofs.PlaceSetLemmas.{has-past}
use Rattle.gb_table.proofs.place_set.PlaceSet.remove.Goals as goal

pub returns-else-place-len-clause-here : goal.returns-else-place-len-clause-here
returns-else-place-len-clause-here c = let size = ap (λ (v : List ℕ). length v) c.self.view_is in has-past c.args.self.now c.args.place (omega arith)
