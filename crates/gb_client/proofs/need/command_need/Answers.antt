use Rattle.gb_types.specs.Common.{map}
use Rattle.gb_client.proofs.NeedLemmas.{needs_tenant}
use Rattle.gb_client.proofs.need.command_need.Goals as goal

pub returns-in-Say : goal.returns-in-Say
returns-in-Say c = rw c.in-Say.is c.member_need.ensures

pub returns-in-Fetch : goal.returns-in-Fetch
returns-in-Fetch c = rw c.in-Fetch.is c.member_need-in-Fetch.ensures

pub returns-in_default : goal.returns-in_default
returns-in_default c need =
    rw (needs_tenant c.args.head c.args.node need (map (λ word. word.now) c.args.words.now) c.in_default.not-Say c.in_default.not-Fetch) at (c.tenant_need.ensures need)
