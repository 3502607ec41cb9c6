use Rattle.gb_stack.proofs.unordered.UnorderedBounded.most.Goals as goal

pub returns-in-BestEffort-clause-sends : goal.returns-in-BestEffort-clause-sends
returns-in-BestEffort-clause-sends c = rw c.in-BestEffort.is (λ ms n w call k. c.most.ensures.sends ms n w call k)

pub returns-in-BestEffort-clause-ups : goal.returns-in-BestEffort-clause-ups
returns-in-BestEffort-clause-ups c = rw c.in-BestEffort.is (λ ms n w call k. c.most.ensures.ups ms n w call k)

pub returns-in-Lazy-clause-sends : goal.returns-in-Lazy-clause-sends
returns-in-Lazy-clause-sends c = rw c.in-Lazy.is (λ ms n w call k. c.most-in-Lazy.ensures.sends ms n w call k)

pub returns-in-Lazy-clause-ups : goal.returns-in-Lazy-clause-ups
returns-in-Lazy-clause-ups c = rw c.in-Lazy.is (λ ms n w call k. c.most-in-Lazy.ensures.ups ms n w call k)

pub returns-in-Eager-clause-sends : goal.returns-in-Eager-clause-sends
returns-in-Eager-clause-sends c = rw c.in-Eager.is (λ ms n w call k. c.most-in-Eager.ensures.sends ms n w call k)

pub returns-in-Eager-clause-ups : goal.returns-in-Eager-clause-ups
returns-in-Eager-clause-ups c = rw c.in-Eager.is (λ ms n w call k. c.most-in-Eager.ensures.ups ms n w call k)

pub returns-in-AllAck-clause-sends : goal.returns-in-AllAck-clause-sends
returns-in-AllAck-clause-sends c = rw c.in-AllAck.is (λ ms n w call k. c.most-in-AllAck.ensures.sends ms n w call k)

pub returns-in-AllAck-clause-ups : goal.returns-in-AllAck-clause-ups
returns-in-AllAck-clause-ups c = rw c.in-AllAck.is (λ ms n w call k. c.most-in-AllAck.ensures.ups ms n w call k)

pub returns-in-Majority-clause-sends : goal.returns-in-Majority-clause-sends
returns-in-Majority-clause-sends c = rw c.in-Majority.is (λ ms n w call k. c.most-in-Majority.ensures.sends ms n w call k)

pub returns-in-Majority-clause-ups : goal.returns-in-Majority-clause-ups
returns-in-Majority-clause-ups c = rw c.in-Majority.is (λ ms n w call k. c.most-in-Majority.ensures.ups ms n w call k)
