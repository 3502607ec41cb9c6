use Rattle.gb_types.specs.Common.{ap}
use Rattle.gb_stack.specs.StackState.{best_effort}
use Rattle.gb_stack.proofs.unordered.UnorderedLayer.whole.Goals as goal

pub returns-in-BestEffort-clause-meaning : goal.returns-in-BestEffort-clause-meaning
returns-in-BestEffort-clause-meaning c = λ ms. rw c.in-BestEffort.is (ap best_effort (c.whole.ensures.meaning ms))

pub returns-in-Lazy-clause-kept : goal.returns-in-Lazy-clause-kept
returns-in-Lazy-clause-kept c = rw c.in-Lazy.is c.whole-in-Lazy.ensures.kept

pub returns-in-Lazy-clause-memory : goal.returns-in-Lazy-clause-memory
returns-in-Lazy-clause-memory c = rw c.in-Lazy.is c.whole-in-Lazy.ensures.memory

pub returns-in-Eager-clause-kept : goal.returns-in-Eager-clause-kept
returns-in-Eager-clause-kept c = rw c.in-Eager.is c.whole-in-Eager.ensures.kept

pub returns-in-Eager-clause-memory : goal.returns-in-Eager-clause-memory
returns-in-Eager-clause-memory c = rw c.in-Eager.is c.whole-in-Eager.ensures.memory

pub returns-in-AllAck-clause-kept : goal.returns-in-AllAck-clause-kept
returns-in-AllAck-clause-kept c = rw c.in-AllAck.is c.whole-in-AllAck.ensures.kept

pub returns-in-AllAck-clause-memory : goal.returns-in-AllAck-clause-memory
returns-in-AllAck-clause-memory c = rw c.in-AllAck.is c.whole-in-AllAck.ensures.memory

pub returns-in-Majority-clause-kept : goal.returns-in-Majority-clause-kept
returns-in-Majority-clause-kept c = rw c.in-Majority.is c.whole-in-Majority.ensures.kept

pub returns-in-Majority-clause-memory : goal.returns-in-Majority-clause-memory
returns-in-Majority-clause-memory c = rw c.in-Majority.is c.whole-in-Majority.ensures.memory
