use Rattle.gb_types.specs.Common.{Some, IfSome, All-set}
use Rattle.gb_schedule.specs.Keys.{IsMemberToken}
use Rattle.gb_schedule.proofs.keys.Keys.put.Goals as goal

pub invariant_of-self : goal.invariant_of-self
invariant_of-self c = (
  c.self.invariant.0,
  c.self.invariant.1,
  c.self.invariant.2,
  All-set (λ place. IfSome place (λ found. IsMemberToken found.member found.token)) c.self.inside.recent.items c.args.place (Some c.args.found) c.requires c.self.invariant.3,
)
