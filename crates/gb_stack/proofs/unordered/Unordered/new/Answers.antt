use Rattle.gb_types.specs.Common.{ap, ◌∙◌}
use Rattle.gb_layer.specs.Common.{at_start}
use Rattle.gb_stack.specs.StackState.{best_effort, lazy, eager, all_ack, majority_ack}
use Rattle.gb_stack.proofs.unordered.Unordered.new.Goals as goal

pub returns-in-BestEffort-clause-meaning : goal.returns-in-BestEffort-clause-meaning
returns-in-BestEffort-clause-meaning c = λ ms. rw c.in-BestEffort.is (ap best_effort (c.new.ensures.meaning ms ∙ c.new-lower.ensures ms))

pub returns-in-Lazy-clause-meaning : goal.returns-in-Lazy-clause-meaning
returns-in-Lazy-clause-meaning c = λ ms. rw c.in-Lazy.is (ap lazy (c.new-in-Lazy.ensures.meaning ms ∙ ap (λ me. at_start me c.args.members) (c.new-lower.ensures ms)))

pub returns-in-Lazy-clause-known : goal.returns-in-Lazy-clause-known
returns-in-Lazy-clause-known c = λ ms. c.new-in-Lazy.ensures.known ms tt

pub returns-in-Eager-clause-meaning : goal.returns-in-Eager-clause-meaning
returns-in-Eager-clause-meaning c = λ ms. rw c.in-Eager.is (ap eager (c.new-in-Eager.ensures.meaning ms ∙ ap (λ me. at_start me c.args.members) (c.new-lower.ensures ms)))

pub returns-in-Eager-clause-known : goal.returns-in-Eager-clause-known
returns-in-Eager-clause-known c = λ ms. c.new-in-Eager.ensures.known ms tt

pub returns-in-AllAck-clause-meaning : goal.returns-in-AllAck-clause-meaning
returns-in-AllAck-clause-meaning c = λ ms. rw c.in-AllAck.is (ap all_ack (c.new-in-AllAck.ensures.meaning ms ∙ ap (λ me. at_start me c.args.members) (c.new-lower.ensures ms)))

pub returns-in-AllAck-clause-known : goal.returns-in-AllAck-clause-known
returns-in-AllAck-clause-known c = λ ms. c.new-in-AllAck.ensures.known ms tt

pub returns-in-Majority-clause-meaning : goal.returns-in-Majority-clause-meaning
returns-in-Majority-clause-meaning c = λ ms. rw c.in-Majority.is (ap majority_ack (c.new-in-Majority.ensures.meaning ms ∙ ap (λ me. at_start me c.args.members) (c.new-lower.ensures ms)))

pub returns-in-Majority-clause-known : goal.returns-in-Majority-clause-known
returns-in-Majority-clause-known c = λ ms. c.new-in-Majority.ensures.known ms tt
