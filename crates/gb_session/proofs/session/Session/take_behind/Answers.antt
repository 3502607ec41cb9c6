use Rattle.gb_session.proofs.RunLemmas.{on_err}
use Rattle.gb_session.proofs.WholeLemmas.{took, broke, nothing_put}
use Rattle.gb_session.proofs.session.Session.take_behind.Goals as goal

pub returns-in_err-put-clause-fails : goal.returns-in_err-put-clause-fails
returns-in_err-put-clause-fails g c =
    on_err _ (nothing_put g.A.Answers.answers c.args.is_late c.args.answers.now c.args.self.now c.put.new.self c.args.piece.now c.args.out.now.items c.args.room c.in_err-put.ensures.err)

pub returns-clause-fails : goal.returns-clause-fails
returns-clause-fails g c =
    broke g.A.Answers.answers c.args.is_late c.args.answers.now c.answer_whole.new.answers c.args.self.now c.put.new.self c.answer_whole.new.self c.args.piece.now c.args.out.now.items c.answer_whole.new.out.items c.args.room
    c.answer_whole.result c.in_ok-put.ensures.ok c.answer_whole.ensures.fails

pub returns-clause-ok : goal.returns-clause-ok
returns-clause-ok g c =
    took g.A.Answers.answers c.args.is_late c.args.answers.now c.answer_whole.new.answers c.args.self.now c.put.new.self c.args.piece.now c.answer_whole.new.self.kept c.args.out.now.items c.answer_whole.new.out.items c.answer_whole.new.self.left c.args.room
    c.answer_whole.result c.in_ok-put.ensures.ok c.answer_whole.ensures.ok
