use Rattle.gb_types.specs.Common.{length}
use Rattle.gb_broadcast_examples.proofs.layer_examples.last_effects.Given as goal

abbrev pub invariant-loop-call : goal.invariant-loop-call
invariant-loop-call g l = g.L.Layer.knows l.index.list.items l.layer l.told (length l.index.list.items)
