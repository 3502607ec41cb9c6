use Rattle.gb_session.specs.Progress.{HasAnswered}
use Rattle.gb_session.proofs.serve.answer_piece.Given as goal

-- the messages in front are answered
abbrev pub invariant-messages : goal.invariant-messages
invariant-messages g l = HasAnswered g.A.Answers.answers l.initial.answers l.answers l.initial.session.kept l.session (g.W.Write.contents l.initial.writer) (g.W.Write.contents l.writer) l.initial.session.left

abbrev pub decreases-messages : goal.decreases-messages
decreases-messages g l = l.session.left
