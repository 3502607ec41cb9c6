use Rattle.gb_merge.proofs.MailLemmas.{noted_new, none_copied}
use Rattle.gb_merge.proofs.mail.note.Goals as goal

pub returns-in-Ok-clause-ok : goal.returns-in-Ok-clause-ok
returns-in-Ok-clause-ok c = λ q.
    noted_new _ (λ k. k.now) c.args.firsts.now c.insert.new.self c.args.bytes c.args.place q (none_copied c.get.result _ c.is_some.result c.is_some.ensures c.if-is_some.false c.get.ensures.value) c.in-Ok.ensures.entries
