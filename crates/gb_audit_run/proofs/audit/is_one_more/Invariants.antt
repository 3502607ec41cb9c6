use Rattle.gb_types.specs.Common.{take, All}
use Rattle.gb_audit_run.specs.Audits.{AreOfOne}
use Rattle.gb_audit_run.proofs.audit.is_one_more.Given as goal

abbrev pub invariant-loop-other : goal.invariant-loop-other
invariant-loop-other l = All (λ r. AreOfOne r.head l.record.head) (take l.other-index l.records)
