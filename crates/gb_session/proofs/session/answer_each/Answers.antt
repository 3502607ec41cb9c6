use Rattle.gb_types.specs.Common.{◌++◌, ◌∷◌, [], drop, sym, append-nil, arith}
use Rattle.gb_session.specs.Nexts.{session_at}
use Rattle.gb_session.proofs.SettleLemmas.{front_none}
use Rattle.gb_session.proofs.NextLemmas.{within_none, within_one, written_one, front_next, takes_ended}
use Rattle.gb_session.proofs.session.answer_each.Goals as goal

pub messages-init : goal.messages-init
messages-init g c = record {
  within_bytes = c.requires;
  texts = [];
  front = front_none g.A.Answers.answers c.args.is_late c.args.answers.now (drop c.args.progress.now.at c.args.bytes.now) c.args.progress.now.left;
  within = within_none c.args.room c.args.out.now.items;
  out_is = sym (append-nil c.args.out.now.items);
}

pub messages-preserved : goal.messages-preserved
messages-preserved g c =
    let next = rw c.in-Answered.is at c.in_ok-answer_one.ensures.ok in record {
      within_bytes = c.answer_one.ensures.within;
      texts = c.messages.invariant.texts ++ next.0.1 ∷ [];
      front = front_next g.A.Answers.answers c.args.is_late c.args.answers.now c.messages.answers c.answer_one.new.answers (drop c.args.progress.now.at c.args.bytes.now)
          (session_at c.args.bytes.now c.messages.progress.at c.messages.progress.left) (session_at c.args.bytes.now c.answer_one.new.progress.at c.answer_one.new.progress.left) c.messages.invariant.texts c.args.progress.now.left c.in-Answered.field-0 next.0.1
          c.messages.invariant.front next.0.2 next.0.0 next.1;
      within = within_one c.args.room c.args.out.now.items c.messages.out.items c.messages.invariant.texts next.0.1 c.messages.invariant.out_is (omega arith);
      out_is = written_one c.args.out.now.items c.messages.out.items c.answer_one.new.out.items c.messages.invariant.texts next.0.1 c.messages.invariant.out_is next.0.3;
    }

pub returns-in-Ended-clause-ok : goal.returns-in-Ended-clause-ok
returns-in-Ended-clause-ok g c =
    let next = rw c.in-Ended.is at c.in_ok-answer_one.ensures.ok in
    takes_ended g.A.Answers.answers c.args.is_late c.args.answers.now c.messages.answers c.answer_one.new.answers (drop c.args.progress.now.at c.args.bytes.now) (session_at c.args.bytes.now c.messages.progress.at c.messages.progress.left) (session_at c.args.bytes.now c.answer_one.new.progress.at c.answer_one.new.progress.left)
    c.args.out.now.items c.messages.out.items c.answer_one.new.out.items c.messages.invariant.texts c.args.progress.now.left c.args.room c.in-Ended.end c.messages.invariant.front c.messages.invariant.within c.messages.invariant.out_is next.0 next.1
