use Rattle.gb_types.specs.Common.{◌∙◌, sym, subst, arith, take, ◌+◌, All, set, length-set}
use Rattle.gb_audit_run.proofs.AuditLemmas.{SendsIt, versions_more, all_seen}
use Rattle.gb_audit_run.proofs.cluster.versions_of.Goals as goal

pub loop-head-preserved : goal.loop-head-preserved
loop-head-preserved c = (
  length-set c.loop-head.versions c.index.result c.head-item.result.version ∙ c.loop-head.invariant.0,
  subst (λ n. All (SendsIt (set c.loop-head.versions n c.head-item.result.version)) (take (c.loop-head.head-index + 1) c.args.heads.now)) (sym c.index.ensures.value)
      (versions_more c.args.heads.now c.loop-head.versions c.loop-head.head-index c.head-item.result c.loop-head-test.true c.head-item.is c.requires.one (omega (arith, c.index.ensures.value, c.index.ensures.bound, c.loop-head.invariant.0)) c.loop-head.invariant.1),
)

pub returns : goal.returns
returns c = all_seen (SendsIt c.loop-head.versions) c.args.heads.now c.loop-head.head-index c.loop-head-test.false c.loop-head.invariant.1
