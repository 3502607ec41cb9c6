use Rattle.gb_layer.proofs.EachOnceLemmas.{each_once}
use Rattle.gb_stack.specs.StackState.{stack_next, stack_gives, stack_me, IsUntoldStack}
use Rattle.gb_stack.specs.StackLemmas.{stack_own, stack_up_once}
use Rattle.gb_stack.proofs.StartedLemmas.{started_once}
use Rattle.gb_stack.proofs.stands.starts.Goals as goal

pub returns : goal.returns
returns c = started_once (each_once stack_next stack_gives IsUntoldStack stack_me stack_own stack_up_once)
