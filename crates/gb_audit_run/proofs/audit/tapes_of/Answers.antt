use Rattle.gb_types.specs.Common.{arith}
use Rattle.gb_audit_run.proofs.AuditLemmas.{made_none, all_made, none_left}
use Rattle.gb_audit_run.proofs.audit.tapes_of.Goals as goal

pub loop-record-init : goal.loop-record-init
loop-record-init c = made_none c.args.nodes c.args.records.items c.loop.tapes.items (omega (arith, c.loop.invariant.0, c.loop.auto.counter-end, c.loop-test.false)) c.loop.invariant.1

pub returns : goal.returns
returns c = all_made c.args.nodes c.args.records.items c.loop-record.left.items c.loop-record.tapes.items (none_left c.loop-record.left c.pop.result c.in_default.is c.pop.ensures.variant) c.loop-record.invariant
