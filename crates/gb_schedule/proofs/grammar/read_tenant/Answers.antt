use Rattle.gb_types.specs.Common.{common_steps, arith}
use Rattle.gb_types.proofs.ReadLemmas.{words_are}
use Rattle.gb_schedule.proofs.RowLemmas.{tenant_reads, no_tenant_limits}
use Rattle.gb_schedule.proofs.grammar.read_tenant.Goals as goal

pub returns : goal.returns
returns c =
    tenant_reads _ _ _ _ _ _ _ _ _ _ _ _ _ _ (words_are c.args.words.now _ 6 (omega arith))
    c.in_ok-node.ensures c.in_ok-tenant.ensures c.in_ok-groups.ensures c.in_ok-msgs.ensures c.admin.ensures c.tenant_key.ensures

pub returns-in_err-msgs : goal.returns-in_err-msgs
returns-in_err-msgs c command = (
  λ is. cc (c.from_residual-in_err-msgs.ensures, is),
  λ spelt. absurd (no_tenant_limits _ _ _ _ _ _ _ _ command (words_are c.args.words.now _ 6 (omega arith)) c.in_err-msgs.ensures spelt),
)

pub returns-in_default : goal.returns-in_default
returns-in_default c = grind (arith, common_steps)

pub returns-in_err-node : goal.returns-in_err-node
returns-in_err-node c = grind (arith, common_steps)

pub returns-in_err-tenant : goal.returns-in_err-tenant
returns-in_err-tenant c = grind (arith, common_steps)

pub returns-in_err-groups : goal.returns-in_err-groups
returns-in_err-groups c = grind (arith, common_steps)
