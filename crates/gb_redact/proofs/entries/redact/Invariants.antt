use Rattle.gb_types.specs.Common.{◌≡◌, length, take}
use Rattle.gb_redact.specs.Redacted.{rows_in, AreRedactedTo}
use Rattle.gb_redact.proofs.entries.redact.Given as goal

abbrev pub invariant-loop-place : goal.invariant-loop-place
invariant-loop-place l =
    (l.rows.items ≡ rows_in (take l.place l.entries)) × (length l.made.items ≡ l.place) × AreRedactedTo l.admin l.me l.entries l.made.items l.place
