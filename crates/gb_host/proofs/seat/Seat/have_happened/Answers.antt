use Rattle.gb_types.specs.Common.{subst}
use Rattle.gb_host.specs.Happened.{HaveHappened}
use Rattle.gb_host.specs.SeatValue.{SeatValue}
use Rattle.gb_host.proofs.seat.Seat.have_happened.Goals as goal

pub returns : goal.returns
returns g c = subst (λ (s : SeatValue). HaveHappened g.L.Tapes.plan s) c.self.view_is c.self.invariant.happened
