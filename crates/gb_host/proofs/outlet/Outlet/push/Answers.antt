use Rattle.rtrb.specs.Ring.{sent}
use Rattle.gb_host.proofs.RingLemmas.{begun_more}
use Rattle.gb_host.proofs.outlet.Outlet.push.Goals as goal

pub invariant_of-self : goal.invariant_of-self
invariant_of-self g c = begun_more c.self.inside.node (sent c.self.inside.out) (sent c.push_reserved.new.self) c.args.entry c.seen-seen.result c.self.invariant c.push_reserved.ensures.sent.0
