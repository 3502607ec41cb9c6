use Rattle.gb_types.specs.Common.{arith, ap, length}
use Rattle.gb_audit_run.proofs.AuditLemmas.{sum_past}
use Rattle.gb_audit_run.proofs.audit.have_entries.Goals as goal

pub returns-then-entries-left : goal.returns-then-entries-left
returns-then-entries-left c =
    let past = sum_past c.args.tapes.now c.loop-tape.tape-index c.tape-item.result c.loop-tape-test.true c.tape-item.is in
    let size = ap length c.as_slice-entries.ensures in (λ f. absurd (cc), λ same. absurd (omega (arith, past, size, same, c.loop-tape.invariant, c.if-entries-left.true)))
