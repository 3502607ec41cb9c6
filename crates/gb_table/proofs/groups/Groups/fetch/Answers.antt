use Rattle.gb_types.specs.Common.{◌≡◌, ap, sym, ◌∙◌, inr, true, false, is_some}
use Rattle.gb_rules.specs.Common.{Shown, fetch_answer}
use Rattle.gb_table.proofs.LivingLemmas.{lives_at, reply_absent}
use Rattle.gb_table.proofs.groups.Groups.fetch.Goals as goal

pub unreachable-requires : goal.unreachable-requires
unreachable-requires c = let no : false ≡ true = sym (ap is_some c.in_default-slot.ensures.slot) ∙ (lives_at c.args.addr c.args.self.now.rows c.in-Some.place (sym c.in-Some.is ∙ c.requires)).1 in absurd (cc)

pub returns-in_default : goal.returns-in_default
returns-in_default c = inr (c.absent.ensures ∙ reply_absent (λ (s : Shown). fetch_answer s c.args.from c.args.most) c.args.addr c.args.self.now (sym c.in_default.is ∙ c.requires))
