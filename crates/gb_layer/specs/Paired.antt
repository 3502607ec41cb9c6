-- The messages of an index, each with what a column has at its place.
use Rattle.std.specs.Prelude.{List, [], ◌∷◌}
use Rattle.gb_types.specs.declared.message.MsgId.{MsgId}

-- f of the first messages and what the column has at their places, as many as the column has
abbrev pub paired : {H E : Type 0} → (MsgId → H → E) → List MsgId → List H → List E
paired f [] hs = []
paired f (m ∷ ms) [] = []
paired f (m ∷ ms) (h ∷ hs) = f m h ∷ paired f ms hs
