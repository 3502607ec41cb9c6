use Rattle.gb_types.specs.Common.{arith, subst, All, take_all, All-more}
use Rattle.gb_record_text.specs.Laws.{IsAnswered}
use Rattle.gb_audit_run.specs.Audits.{IsAllAnswered}
use Rattle.gb_audit_run.proofs.audit.are_replayed.Goals as goal

pub loop-place-preserved : goal.loop-place-preserved
loop-place-preserved c =
    All-more IsAllAnswered c.args.records.now c.loop-place.place c.index-records-place.result (omega (arith, c.loop-place-test.true)) c.loop-place.invariant
    (subst IsAllAnswered c.index-records-place.is (subst (All IsAnswered) c.deref.ensures.value (rw c.in_default.is at c.in_ok-wrong.ensures.answered)))

pub returns : goal.returns
returns c = λ _. subst (All IsAllAnswered) (take_all c.loop-place.place c.args.records.now (omega (arith, c.loop-place-test.false))) c.loop-place.invariant
