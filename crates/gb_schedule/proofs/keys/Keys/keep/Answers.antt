use Rattle.gb_cap.proofs.KeptLemmas.{kept_after}
use Rattle.gb_schedule.specs.Keys.{IsMemberToken}
use Rattle.gb_schedule.proofs.KeyLemmas.{same_member}
use Rattle.gb_schedule.proofs.keys.Keys.keep.Goals as goal

pub invariant_of-self : goal.invariant_of-self
invariant_of-self c = (
  c.self.invariant.0,
  c.self.invariant.1,
  kept_after IsMemberToken c.insert.result _ c.args.member c.self.inside.members.entries c.insert.new.self.entries c.args.token c.insert.ensures.entries c.insert.ensures.err (λ k h. same_member c.args.member k h) c.self.invariant.2 c.requires,
  c.self.invariant.3,
)
