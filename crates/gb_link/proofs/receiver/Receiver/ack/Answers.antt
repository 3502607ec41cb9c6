use Rattle.gb_types.specs.Common.{sym}
use Rattle.gb_link.proofs.ReceivedLemmas.{base_of_covered, mask_of_covered, contains-covered}
use Rattle.gb_link.proofs.receiver.Receiver.ack.Goals as goal

pub returns-clause-base : goal.returns-clause-base
returns-clause-base c = rw (← c.self.view_is) (sym (base_of_covered _ _ c.self.invariant))

pub returns-clause-mask : goal.returns-clause-mask
returns-clause-mask c = rw (← c.self.view_is) (sym (mask_of_covered _ _ c.self.invariant))

pub returns-clause-exact : goal.returns-clause-exact
returns-clause-exact c = rw (← c.self.view_is) (λ n from. sym (contains-covered _ _ n c.self.invariant.word from))
