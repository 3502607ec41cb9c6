use Rattle.gb_types.specs.Common.{◌≡◌, [], length, vec_len, All}
use Rattle.gb_audit_run.proofs.AuditLemmas.{AreMade}
use Rattle.gb_audit_run.proofs.audit.tapes_of.Given as goal

abbrev pub invariant-loop : goal.invariant-loop
invariant-loop l = (length l.tapes.items ≡ l.counter) × All (λ t. t ≡ []) l.tapes.items

abbrev pub invariant-loop-record : goal.invariant-loop-record
invariant-loop-record l = AreMade l.nodes l.fn.records.items l.left.items l.tapes.items

abbrev pub decreases-loop-record : goal.decreases-loop-record
decreases-loop-record l = vec_len l.left
