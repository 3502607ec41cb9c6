use Rattle.gb_host.proofs.KeptLemmas.{ended}
use Rattle.gb_host.proofs.hosted.Hosted.end.Goals as goal

pub end-requires : goal.end-requires
end-requires g c =
    let h = c.self.inside in
    let fits = c.self.invariant.1 in
    ended g.L.Tapes.plan g.L.Tapes.books h.me h.node h.kept c.in-Ring.out h.past c.in-Ring.is c.self.invariant.2 fits.kept fits.member fits.booked fits.comes
