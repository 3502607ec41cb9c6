use Rattle.gb_types.specs.Common.{arith}
use Rattle.gb_types.specs.declared.limits.TheConstants.{MESSAGES}
use Rattle.gb_slot.proofs.MemoryLemmas.{all_fit}
use Rattle.gb_slot.proofs.slot.message_count.Goals as goal

pub overflow_mul-result : goal.overflow_mul-result
overflow_mul-result c =
    let fit = all_fit c.args.spec.now.members c.count_in.result c.args.spec.now.msgs MESSAGES c.count_in.ensures c.requires.msgs in
    omega (arith, fit)
