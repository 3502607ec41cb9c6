use Rattle.gb_types.specs.Common.{◌<◌, refl, arith}
use Rattle.gb_audit_run.proofs.AuditLemmas.{one_more, all_seen}
use Rattle.gb_audit_run.proofs.cluster.are_below.Goals as goal

pub loop-head-preserved : goal.loop-head-preserved
loop-head-preserved c =
    one_more (λ h. h.node.number < c.args.nodes) c.args.heads.now c.loop-head.head-index c.head-item.result c.loop-head-test.true c.head-item.is (omega (arith, c.if-head-nodes.false)) c.loop-head.invariant

pub returns : goal.returns
returns c = (λ _. all_seen (λ h. h.node.number < c.args.nodes) c.args.heads.now c.loop-head.head-index c.loop-head-test.false c.loop-head.invariant, λ _. refl)
