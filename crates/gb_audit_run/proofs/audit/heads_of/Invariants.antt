use Rattle.gb_types.specs.Common.{take, ◌≡◌, map}
use Rattle.gb_audit_run.proofs.audit.heads_of.Given as goal

abbrev pub invariant-loop-record : goal.invariant-loop-record
invariant-loop-record l = l.heads.items ≡ map (λ r. r.head) (take l.record-index l.records)
