use Rattle.gb_types.specs.Common.{◌≡◌, ◌++◌, take}
use Rattle.gb_status.specs.Times.{rows_text}
use Rattle.gb_status.proofs.times.put_rows.Given as goal

-- the rows so far are written
abbrev pub invariant-loop-row : goal.invariant-loop-row
invariant-loop-row l = l.out.items ≡ l.fn.out.items ++ rows_text l.measured (take l.row-index l.rows)
