use Rattle.gb_types.specs.Common.{refl, take_rest}
use Rattle.gb_session.proofs.NextLemmas.{next_same}
use Rattle.gb_session.specs.declared.session.Next.TheVariants.{Ended}
use Rattle.gb_session.proofs.session.answer_one.Goals as goal

pub returns-in-Ended-clause-ok : goal.returns-in-Ended-clause-ok
returns-in-Ended-clause-ok g c = (
  next_same g.A.Answers.answers c.args.is_late c.args.answers.now c.answer_front.new.answers _ _ c.args.progress.now.left c.args.progress.now.left c.args.out.now.items c.answer_front.new.out.items (Ended c.in-Ended.end)
      (take_rest c.args.bytes.now c.args.progress.now.at) refl (rw c.in-Ended.is at c.in_ok-end.ensures.ok),
  refl,
)
