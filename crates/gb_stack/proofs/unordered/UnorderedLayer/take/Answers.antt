use Rattle.gb_stack.proofs.unordered.UnorderedLayer.take.Goals as goal

pub returns-in-Lazy-clause-known : goal.returns-in-Lazy-clause-known
returns-in-Lazy-clause-known g c = rw c.in-Lazy.is (λ n w k next. c.take-in-Lazy.ensures.known n w k next)

pub returns-in-Eager-clause-known : goal.returns-in-Eager-clause-known
returns-in-Eager-clause-known g c = rw c.in-Eager.is (λ n w k next. c.take-in-Eager.ensures.known n w k next)

pub returns-in-AllAck-clause-known : goal.returns-in-AllAck-clause-known
returns-in-AllAck-clause-known g c = rw c.in-AllAck.is (λ n w k next. c.take-in-AllAck.ensures.known n w k next)

pub returns-in-Majority-clause-known : goal.returns-in-Majority-clause-known
returns-in-Majority-clause-known g c = rw c.in-Majority.is (λ n w k next. c.take-in-Majority.ensures.known n w k next)
