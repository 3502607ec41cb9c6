use Rattle.gb_types.specs.Common.{ap, ◌∙◌, drop, take_rest}
use Rattle.gb_session.proofs.RunLemmas.{on_err}
use Rattle.gb_session.proofs.NextLemmas.{next_same, fails_same}
use Rattle.gb_session.proofs.session.Session.answer_next.Goals as goal

pub returns-in_err-next-clause-err : goal.returns-in_err-next-clause-err
returns-in_err-next-clause-err g c =
    on_err _ (fails_same g.A.Answers.answers c.args.is_late c.args.answers.now c.answer_front.new.answers _ _ _ _ c.args.out.now.items c.answer_front.new.out.items
    (take_rest c.deref.result.now c.self.inside.at ∙ ap (drop c.self.inside.at) c.deref.ensures.value ∙ ap (λ s. s.kept) c.self.view_is) (ap (λ s. s.left) c.self.view_is) c.in_err-next.ensures.err)

pub returns-clause-ok : goal.returns-clause-ok
returns-clause-ok g c = (
  next_same g.A.Answers.answers c.args.is_late c.args.answers.now c.answer_front.new.answers _ _ _ _ c.args.out.now.items c.answer_front.new.out.items c.in_ok-next.next
      (take_rest c.deref.result.now c.self.inside.at ∙ ap (drop c.self.inside.at) c.deref.ensures.value ∙ ap (λ s. s.kept) c.self.view_is) (ap (λ s. s.left) c.self.view_is) c.in_ok-next.ensures.ok,
  c.step_over.ensures,
)
