use Rattle.gb_types.specs.Common.{arith}
use Rattle.gb_types.specs.declared.limits.TheConstants.{BYTES}
use Rattle.gb_slot.proofs.MemoryLemmas.{all_fit}
use Rattle.gb_slot.proofs.slot.memory.Goals as goal

pub overflow_mul-bytes : goal.overflow_mul-bytes
overflow_mul-bytes c =
    let fit = all_fit c.args.spec.now.members c.count_in.result c.args.spec.now.bytes BYTES c.count_in.ensures c.requires.bytes in
    omega (arith, fit)
