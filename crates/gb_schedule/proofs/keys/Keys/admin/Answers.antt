use Rattle.gb_types.specs.Common.{ap, ◌∙◌}
use Rattle.gb_cap.specs.Token.{token_of}
use Rattle.gb_cap.specs.declared.token.Need.TheVariants.{Admin}
use Rattle.gb_schedule.specs.Keys.{admin_token}
use Rattle.gb_schedule.proofs.keys.Keys.admin.Goals as goal

pub returns : goal.returns
unfolding admin_token
returns c = c.token.ensures ∙ ap (λ key. token_of key Admin) c.self.invariant.0
