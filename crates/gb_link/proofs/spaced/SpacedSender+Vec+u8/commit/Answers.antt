use Rattle.gb_link.proofs.WindowLemmas.{IsWindow-pushed}
use Rattle.gb_link.proofs.spaced.«SpacedSender+Vec+u8».commit.Goals as goal

pub invariant_of-self : goal.invariant_of-self
invariant_of-self c =
    let room = rw (← c.self.view_is) at c.requires.room in
    (rw c.push_back_reserved.ensures.items (IsWindow-pushed _ _ room c.self.invariant.0), λ e. absurd cc)
