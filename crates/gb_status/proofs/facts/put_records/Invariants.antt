use Rattle.gb_types.specs.Common.{◌≡◌, ◌++◌, take}
use Rattle.gb_status.specs.Facts.{records_text}
use Rattle.gb_status.proofs.facts.put_records.Given as goal

-- the rows so far are written
abbrev pub invariant-loop-row : goal.invariant-loop-row
invariant-loop-row l = l.out.items ≡ l.fn.out.items ++ records_text (take l.row-index l.rows)
