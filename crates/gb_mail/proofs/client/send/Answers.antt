use Rattle.gb_types.specs.Common.{[], refl, rules}
use Rattle.gb_mail.proofs.client.send.Goals as goal

pub returns-then-is_empty-clause-some : goal.returns-then-is_empty-clause-some
returns-then-is_empty-clause-some g c = ([], search rules, refl)

pub returns-then-not-settle-clause-none : goal.returns-then-not-settle-clause-none
returns-then-not-settle-clause-none g c = ([], c.args.bytes.now, search rules, refl)
