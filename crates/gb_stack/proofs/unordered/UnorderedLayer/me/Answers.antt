use Rattle.gb_stack.proofs.unordered.UnorderedLayer.me.Goals as goal

pub returns-in-BestEffort : goal.returns-in-BestEffort
returns-in-BestEffort c = λ ms. rw c.in-BestEffort.is (c.me.ensures ms)

pub returns-in-Lazy : goal.returns-in-Lazy
returns-in-Lazy c = λ ms. rw c.in-Lazy.is (c.me-in-Lazy.ensures ms)

pub returns-in-Eager : goal.returns-in-Eager
returns-in-Eager c = λ ms. rw c.in-Eager.is (c.me-in-Eager.ensures ms)

pub returns-in-AllAck : goal.returns-in-AllAck
returns-in-AllAck c = λ ms. rw c.in-AllAck.is (c.me-in-AllAck.ensures ms)

pub returns-in-Majority : goal.returns-in-Majority
returns-in-Majority c = λ ms. rw c.in-Majority.is (c.me-in-Majority.ensures ms)
