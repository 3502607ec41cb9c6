use Rattle.gb_types.specs.Common.{arith, common_steps}
use Rattle.gb_slot.proofs.slot.Slot.done.Goals as goal

pub invariant_of-self : goal.invariant_of-self
invariant_of-self c = grind (arith, common_steps)

pub returns-then-eq : goal.returns-then-eq
returns-then-eq c = grind (arith, common_steps)
