use Rattle.gb_types.specs.Common.{sym, ◌∙◌}
use Rattle.gb_schedule.specs.Keys.{member_token}
use Rattle.gb_schedule.proofs.KeyLemmas.{same_node}
use Rattle.gb_schedule.proofs.keys.Keys.make.Goals as goal

pub keep-requires : goal.keep-requires
unfolding member_token
keep-requires c = λ node e. c.token-token.ensures ∙ same_node c.args.address c.args.node node (sym e)

pub returns : goal.returns
unfolding member_token
returns c = c.token-token.ensures
