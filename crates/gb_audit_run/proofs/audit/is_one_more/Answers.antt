use Rattle.gb_types.specs.Common.{refl}
use Rattle.gb_record_text.specs.declared.reader.Record.{Record}
use Rattle.gb_audit_run.specs.Audits.{AreOfOne}
use Rattle.gb_audit_run.proofs.AuditLemmas.{one_more, all_seen}
use Rattle.gb_audit_run.proofs.audit.is_one_more.Goals as goal

pub loop-other-preserved : goal.loop-other-preserved
loop-other-preserved c =
    one_more (λ (r : Record). AreOfOne r.head c.args.record.now.head) c.args.records.now c.loop-other.other-index c.other-item.result c.loop-other-test.true c.other-item.is (c.are_of_one.ensures.0 c.if-not-are_of_one.false) c.loop-other.invariant

pub returns : goal.returns
returns c = (λ _. all_seen (λ (r : Record). AreOfOne r.head c.args.record.now.head) c.args.records.now c.loop-other.other-index c.loop-other-test.false c.loop-other.invariant, λ _. refl)
