use Rattle.gb_host.proofs.BegunLemmas.{begun_more}
use Rattle.gb_host.proofs.begun.Begun.replay.Goals as goal

pub invariant_of-self : goal.invariant_of-self
invariant_of-self c =
    let h = c.self.inside in
    (c.self.invariant.0, c.self.invariant.1, begun_more h.plan h.me h.past.log c.add.new.self.log _ h.node c.take-answer.new.self c.self.invariant.2 c.take-answer.ensures.turn c.take-answer.ensures.spelt c.add.ensures.added)
