-- The greatest number of each origin's messages.
use Rattle.std.specs.Prelude.{ℕ, max, cond, nat_eq, List, [], ◌∷◌}
use Rattle.gb_types.specs.declared.message.MsgId.{MsgId}

-- the greatest number of an origin's messages in a list, 0 if it has none there
abbrev pub last_of : ℕ → List MsgId → ℕ
last_of origin [] = 0
last_of origin (m ∷ ms) = cond (nat_eq m.origin.number origin) (max m.seq (last_of origin ms)) (last_of origin ms)
