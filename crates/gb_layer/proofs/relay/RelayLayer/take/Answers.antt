use Rattle.gb_layer.proofs.relay.RelayLayer.take.Goals as goal

pub returns-in-Say-clause-known : goal.returns-in-Say-clause-known
returns-in-Say-clause-known g c = rw c.in-Say.is c.take_say.ensures.known

pub returns-in-Came-clause-known : goal.returns-in-Came-clause-known
returns-in-Came-clause-known g c = rw c.in-Came.is c.take_came.ensures.known

pub returns-in-Notice-clause-known : goal.returns-in-Notice-clause-known
returns-in-Notice-clause-known g c = rw c.in-Notice.is (λ n w k next. c.take_notice.ensures.known n w k)
