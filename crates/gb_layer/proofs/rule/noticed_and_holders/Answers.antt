use Rattle.gb_layer.proofs.RuleLemmas.{noticed_is, holders_is}
use Rattle.gb_layer.proofs.rule.noticed_and_holders.Goals as goal

pub returns-clause-noticed : goal.returns-clause-noticed
returns-clause-noticed c = noticed_is

pub returns-clause-holders : goal.returns-clause-holders
returns-clause-holders c = λ me past m p. holders_is me past p m
