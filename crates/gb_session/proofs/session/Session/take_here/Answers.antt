use Rattle.gb_types.specs.Common.{drop, ap}
use Rattle.gb_session.proofs.WholeLemmas.{took_here, broke_here}
use Rattle.gb_session.proofs.session.Session.take_here.Goals as goal

pub returns-clause-ok : goal.returns-clause-ok
returns-clause-ok g c =
    took_here g.A.Answers.answers c.args.is_late c.args.answers.now c.answer_each-step.new.answers c.args.self.now c.keep.new.self c.args.piece.now (drop c.answer_each-step.new.progress.at c.args.piece.now) c.args.out.now.items c.answer_each-step.new.out.items _ c.answer_each-step.new.progress.left c.args.room
    c.answer_each-step.result c.requires (ap (λ s. s.left) c.self.view_is) c.keep.ensures c.answer_each-step.ensures.ok

pub returns-clause-fails : goal.returns-clause-fails
returns-clause-fails g c =
    broke_here g.A.Answers.answers c.args.is_late c.args.answers.now c.answer_each-step.new.answers c.args.self.now c.keep.new.self c.args.piece.now (drop c.answer_each-step.new.progress.at c.args.piece.now) c.args.out.now.items c.answer_each-step.new.out.items _ c.answer_each-step.new.progress.left c.args.room
    c.answer_each-step.result c.requires (ap (λ s. s.left) c.self.view_is) c.keep.ensures c.answer_each-step.ensures.fails
