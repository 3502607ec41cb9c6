use Rattle.gb_layer.proofs.EachOnceLemmas.{each_once}
use Rattle.gb_stack.specs.StackState.{stack_next, stack_gives, stack_me, IsUntoldStack}
use Rattle.gb_stack.specs.StackLemmas.{stack_me_stays, stack_own, stack_sends_handed_in, stack_ups_handed_in, stack_up_once, stack_sent_once, stack_noticed_once}
use Rattle.gb_stack.proofs.stands.laws.Goals as goal

pub returns-clause-stays : goal.returns-clause-stays
returns-clause-stays c = stack_me_stays

pub returns-clause-own : goal.returns-clause-own
returns-clause-own c = stack_own

pub returns-clause-sends : goal.returns-clause-sends
returns-clause-sends c = stack_sends_handed_in

pub returns-clause-ups : goal.returns-clause-ups
returns-clause-ups c = stack_ups_handed_in

pub returns-clause-up_once : goal.returns-clause-up_once
returns-clause-up_once c = stack_up_once

pub returns-clause-each_once : goal.returns-clause-each_once
returns-clause-each_once c = each_once stack_next stack_gives IsUntoldStack stack_me stack_own stack_up_once

pub returns-clause-sent_once : goal.returns-clause-sent_once
returns-clause-sent_once c = stack_sent_once

pub returns-clause-noticed_once : goal.returns-clause-noticed_once
returns-clause-noticed_once c = stack_noticed_once
