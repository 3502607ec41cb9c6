use Rattle.gb_types.specs.Common.{arith}
use Rattle.gb_layer.specs.Own.{fewer_own}
use Rattle.gb_layer.proofs.direct.DirectBounded.most.Goals as goal

pub returns-clause-ups : goal.returns-clause-ups
returns-clause-ups g c = λ ms n w call k.
    let few = c.most.ensures.ups ms n w call k in
    let less = fewer_own (g.L.Layer.gives (g.L.Layer.meaning ms c.args.self.now.lower) call).ups in
    omega (arith, few, less)
