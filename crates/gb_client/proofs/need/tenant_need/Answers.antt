use Rattle.gb_types.specs.Common.{arith}
use Rattle.gb_types.proofs.ReadLemmas.{words_and_rest}
use Rattle.gb_client.proofs.NeedLemmas.{tenant_reads}
use Rattle.gb_client.proofs.need.tenant_need.Goals as goal

pub returns : goal.returns
returns c = tenant_reads _ _ _ _ (words_and_rest c.args.words.now _ 1 (omega arith)) c.in_ok-tenant.ensures
