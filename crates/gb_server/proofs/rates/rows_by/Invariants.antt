use Rattle.gb_types.specs.Common.{◌≡◌, length, map, take}
use Rattle.gb_server.specs.Behaviour.{row_by}
use Rattle.gb_server.proofs.rates.rows_by.Given as goal

-- the rows so far are made
abbrev pub invariant-rows : goal.invariant-rows
invariant-rows l = (length l.rows ≡ 16) × (take l.at l.rows ≡ map row_by (take l.at l.named))
