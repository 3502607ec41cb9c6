use Rattle.gb_types.specs.Common.{take, All}
use Rattle.gb_audit_run.specs.Counts.{AreCounted}
use Rattle.gb_audit_run.proofs.audit.find_gap.Given as goal

abbrev pub invariant-loop-place : goal.invariant-loop-place
invariant-loop-place l = All (λ r. AreCounted r.entries.items) (take l.place l.records)
