use Rattle.gb_types.specs.Common.{take, All}
use Rattle.gb_audit_run.specs.Audits.{IsAllAnswered}
use Rattle.gb_audit_run.proofs.audit.are_replayed.Given as goal

abbrev pub invariant-loop-place : goal.invariant-loop-place
invariant-loop-place l = All IsAllAnswered (take l.place l.records)
