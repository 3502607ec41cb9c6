use Rattle.gb_types.specs.Common.{arith, refl}
use Rattle.gb_host.proofs.ReplayLemmas.{seat_fits_new}
use Rattle.gb_host.proofs.seat.Seat.new.Goals as goal

pub invariant_of-result : goal.invariant_of-result
invariant_of-result g c = seat_fits_new g.L.Tapes.plan g.L.Tapes.books _ refl c.new.ensures c.new-2.ensures.items (omega (arith, c.args.seen.ok.0, c.requires.seen.0)) c.requires.seen.1 c.requires.seen.2
