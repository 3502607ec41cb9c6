use Rattle.gb_types.specs.Common.{arith}
use Rattle.gb_session.specs.Settled.{answer_text}
use Rattle.gb_session.proofs.RunLemmas.{on_err}
use Rattle.gb_session.proofs.NextLemmas.{outcome_settles, fails_settled, fails_nothing, operation_settles, nothing_asked}
use Rattle.gb_session.proofs.session.answer_front.Goals as goal

pub returns-in_err-put_answer-in-Replied-clause-err : goal.returns-in_err-put_answer-in-Replied-clause-err
returns-in_err-put_answer-in-Replied-clause-err g c =
    on_err _ (fails_settled g.A.Answers.answers c.args.is_late c.args.answers.now c.settle.new.answers c.args.bytes.now c.args.left c.args.out.now.items c.put_answer-in-Replied.new.out.items
    c.in-Message.end (answer_text c.in-Replied.label c.in-Replied.reply) (omega arith) c.in_err-put_answer-in-Replied.ensures.err (
      c.in-Message.ask,
      c.settle.ensures.0,
      c.settle.ensures.1,
      rw c.in-Message.is at c.in_ok-read_ask_front.ensures,
      c.settle.ensures.2,
      outcome_settles g.A.Answers.answers.tells c.args.is_late c.in-Message.ask c.settle.ensures.0 c.settle.ensures.1 c.settle.result c.in-Replied.label c.in-Replied.reply c.settle.ensures.3 c.in-Replied.is,
    ))

pub returns-in_err-put_told-in-Operates-clause-err : goal.returns-in_err-put_told-in-Operates-clause-err
returns-in_err-put_told-in-Operates-clause-err g c =
    on_err _ (fails_nothing g.A.Answers.answers c.args.is_late c.args.answers.now c.settle.new.answers c.args.bytes.now c.args.left c.args.out.now.items c.put_told.new.out.items (omega arith) c.in_err-put_told-in-Operates.ensures.err
    (nothing_asked g.A.Answers.answers c.args.answers.now c.settle.new.answers c.in-Message.ask c.settle.ensures.0 c.settle.ensures.1 c.in-Operates.operation (rw c.in-Operates.is at c.settle.ensures.3) c.settle.ensures.2))

pub returns-in_ok-put_told-in-Operates-clause-ok : goal.returns-in_ok-put_told-in-Operates-clause-ok
returns-in_ok-put_told-in-Operates-clause-ok g c =
    let told = c.in_ok-put_told-in-Operates.ensures.ok in (
      omega arith,
      told.0,
      (
        c.in-Message.ask,
        c.settle.ensures.0,
        c.settle.ensures.1,
        rw c.in-Message.is at c.in_ok-read_ask_front.ensures,
        c.settle.ensures.2,
        operation_settles g.A.Answers.answers.tells c.args.is_late c.in-Message.ask c.settle.ensures.0 c.settle.ensures.1 c.in-Operates.operation told.0 (rw c.in-Operates.is at c.settle.ensures.3) told.1,
      ),
      told.2,
    )

pub returns-in_ok-put_answer-in-Replied-clause-ok : goal.returns-in_ok-put_answer-in-Replied-clause-ok
returns-in_ok-put_answer-in-Replied-clause-ok g c = (
  omega arith,
  answer_text c.in-Replied.label c.in-Replied.reply,
  (
    c.in-Message.ask,
    c.settle.ensures.0,
    c.settle.ensures.1,
    rw c.in-Message.is at c.in_ok-read_ask_front.ensures,
    c.settle.ensures.2,
    outcome_settles g.A.Answers.answers.tells c.args.is_late c.in-Message.ask c.settle.ensures.0 c.settle.ensures.1 c.settle.result c.in-Replied.label c.in-Replied.reply c.settle.ensures.3 c.in-Replied.is,
  ),
  c.in_ok-put_answer-in-Replied.ensures.ok,
)
