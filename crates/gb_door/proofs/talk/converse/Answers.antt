use Rattle.gb_types.specs.Common.{◌∷◌}
use Rattle.gb_door.proofs.talk.converse.Goals as goal

pub loop-preserved : goal.loop-preserved
loop-preserved g c =
    let one = c.in_default.ensures.whole in
    (one.0 ∷ c.loop.invariant.0, (c.loop.visitor, c.loop.desk, c.loop.invariant.1, one.1))
