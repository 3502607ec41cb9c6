use Rattle.gb_types.specs.Common.{subst, sym, Some}
use Rattle.std.specs.Io.KnownBytes.{Appends}
use Rattle.gb_types.proofs.ReadLemmas.{err_so}
use Rattle.gb_session.specs.Progress.{CutsOff, WritesPart}
use Rattle.gb_session.specs.declared.serve.SessionFault.TheVariants.{OutOfMemory, Write}
use Rattle.gb_session.proofs.ServeLemmas.{answered_none, answered_one, cuts_none, cuts_put, cuts_next, cuts_write, stands_ended, stands_put}
use Rattle.gb_session.proofs.serve.answer_piece.Goals as goal

pub returns-in_err-put-clause-fault : goal.returns-in_err-put-clause-fault
returns-in_err-put-clause-fault g c =
    err_so c.from_residual.result OutOfMemory _ c.from_residual.ensures.1 (cuts_none g.A.Answers.answers c.args.answers.now _ (g.W.Write.contents c.args.writer.now) c.args.session.now.left)

pub messages-init : goal.messages-init
messages-init g c = answered_none g.A.Answers.answers c.args.answers.now c.put.new.self (g.W.Write.contents c.args.writer.now)

pub returns-in_err-next-clause-fault : goal.returns-in_err-next-clause-fault
returns-in_err-next-clause-fault g c =
    err_so c.from_residual-in_err-next.result OutOfMemory _ c.from_residual-in_err-next.ensures.1
    (cuts_put g.A.Answers.answers c.args.answers.now c.answer_next.new.answers c.args.session.now c.put.new.self c.args.piece.now (g.W.Write.contents c.args.writer.now) (g.W.Write.contents c.messages.writer) OutOfMemory c.in_ok-put.ensures.ok
    (cuts_next g.A.Answers.answers c.args.answers.now c.messages.answers c.answer_next.new.answers c.put.new.self.kept c.messages.session (g.W.Write.contents c.args.writer.now) (g.W.Write.contents c.messages.writer) c.put.new.self.left
    c.clear.new.self.items c.answer_next.new.out.items c.messages.invariant c.in_err-next.ensures.err))

pub returns-in_err-write_whole-clause-fault : goal.returns-in_err-write_whole-clause-fault
returns-in_err-write_whole-clause-fault g c =
    err_so c.from_residual-in_err-write_whole.result c.in_err-write_whole.field-0.0 _ c.from_residual-in_err-write_whole.ensures.1
    (subst (CutsOff g.A.Answers.answers c.args.answers.now c.answer_next.new.answers _ (g.W.Write.contents c.args.writer.now) (g.W.Write.contents c.write_whole.new.writer) c.args.session.now.left) (sym c.in_err-write_whole.ensures.fault)
    (cuts_put g.A.Answers.answers c.args.answers.now c.answer_next.new.answers c.args.session.now c.put.new.self c.args.piece.now (g.W.Write.contents c.args.writer.now) (g.W.Write.contents c.write_whole.new.writer) Write c.in_ok-put.ensures.ok
    (cuts_write g.A.Answers.answers c.args.answers.now c.messages.answers c.answer_next.new.answers c.put.new.self.kept c.messages.session (g.W.Write.contents c.args.writer.now) (g.W.Write.contents c.messages.writer) (g.W.Write.contents c.write_whole.new.writer) c.put.new.self.left
    c.clear.new.self.items c.answer_next.new.out.items c.in_ok-next.next c.messages.invariant c.in_ok-next.ensures.ok.0 c.clear.ensures.items
    (subst (λ b. WritesPart b (g.W.Write.contents c.messages.writer) (g.W.Write.contents c.write_whole.new.writer)) c.deref.ensures.value c.in_err-write_whole.ensures.part))))

pub messages-preserved : goal.messages-preserved
messages-preserved g c =
    let next = rw c.in-Answered.is at c.in_ok-next.ensures.ok in
    answered_one g.A.Answers.answers c.args.answers.now c.messages.answers c.answer_next.new.answers c.put.new.self.kept c.messages.session c.answer_next.new.self (g.W.Write.contents c.args.writer.now) (g.W.Write.contents c.messages.writer) (g.W.Write.contents c.write_whole.new.writer) c.put.new.self.left
    c.clear.new.self.items c.answer_next.new.out.items c.in-Answered.field-0 c.messages.invariant next.0 next.1 c.clear.ensures.items
    (subst (λ b. Appends (g.W.Write.contents c.messages.writer) (g.W.Write.contents c.write_whole.new.writer) b) c.deref.ensures.value c.in_ok-write_whole.ensures.ok)

pub returns-in-Ended-clause-ok : goal.returns-in-Ended-clause-ok
returns-in-Ended-clause-ok g c =
    let next = rw c.in-Ended.is at c.in_ok-next.ensures.ok in
    stands_put g.A.Answers.answers c.args.answers.now c.answer_next.new.answers c.args.session.now c.put.new.self c.args.piece.now c.answer_next.new.self (g.W.Write.contents c.args.writer.now) (g.W.Write.contents c.write_whole.new.writer) (Some c.in-Ended.end) c.in_ok-put.ensures.ok
    (stands_ended g.A.Answers.answers c.args.answers.now c.messages.answers c.answer_next.new.answers c.put.new.self.kept c.messages.session c.answer_next.new.self (g.W.Write.contents c.args.writer.now) (g.W.Write.contents c.messages.writer) (g.W.Write.contents c.write_whole.new.writer) c.put.new.self.left
    c.clear.new.self.items c.answer_next.new.out.items c.in-Ended.end c.messages.invariant next.0 next.1 c.clear.ensures.items
    (subst (λ b. Appends (g.W.Write.contents c.messages.writer) (g.W.Write.contents c.write_whole.new.writer) b) c.deref.ensures.value c.in_ok-write_whole.ensures.ok))
