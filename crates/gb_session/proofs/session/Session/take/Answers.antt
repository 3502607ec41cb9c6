use Rattle.gb_session.proofs.WholeLemmas.{whole}
use Rattle.gb_session.proofs.session.Session.take.Goals as goal

pub returns-clause-whole : goal.returns-clause-whole
returns-clause-whole g c =
    whole g.A.Answers.answers c.args.is_late c.args.answers.now c.take_either.new.answers c.args.self.now.kept c.args.piece.now c.take_either.new.self.kept c.args.out.now.items c.take_either.new.out.items c.args.self.now.left c.take_either.new.self.left c.args.room
    c.take_either.result c.take_either.ensures.ok
