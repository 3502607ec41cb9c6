use Rattle.gb_schedule.specs.Keys.{tenant_token}
use Rattle.gb_schedule.proofs.keys.Keys.tenant.Goals as goal

pub returns : goal.returns
unfolding tenant_token
returns c = c.token.ensures
