use Rattle.gb_stack.proofs.stack.Stack.untold.Goals as goal

pub returns-in-Fifo-clause-known : goal.returns-in-Fifo-clause-known
returns-in-Fifo-clause-known c = λ ms. c.new.ensures.known ms (c.new-lower.ensures.known ms)
