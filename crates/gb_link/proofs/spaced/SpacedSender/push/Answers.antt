use Rattle.gb_link.proofs.WindowLemmas.{IsWindow-pushed}
use Rattle.gb_link.proofs.spaced.SpacedSender.push.Goals as goal

pub invariant_of-self-2 : goal.invariant_of-self-2
invariant_of-self-2 g c =
    let room = rw (← c.self.view_is) at c.requires in
    (rw (c.push_back_reserved.ensures.items, c.in_ok-reserve.ensures.items) (IsWindow-pushed _ _ room c.self.invariant.0), λ e. absurd cc)
