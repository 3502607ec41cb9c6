use Rattle.gb_types.specs.Common.{◌++◌, ◌∷◌, [], sym, append-nil, arith}
use Rattle.gb_session.proofs.RunLemmas.{on_err}
use Rattle.gb_session.proofs.SettleLemmas.{front_none}
use Rattle.gb_session.proofs.NextLemmas.{within_none, within_one, written_one, front_next, takes_ended, breaks_off}
use Rattle.gb_session.proofs.session.Session.answer_whole.Goals as goal

pub messages-init : goal.messages-init
messages-init g c = record {
  texts = [];
  front = front_none g.A.Answers.answers c.args.is_late c.args.answers.now c.args.self.now.kept c.args.self.now.left;
  within = within_none c.args.room c.args.out.now.items;
  out_is = sym (append-nil c.args.out.now.items);
}

pub returns-in_err-answer_next-clause-fails : goal.returns-in_err-answer_next-clause-fails
returns-in_err-answer_next-clause-fails g c =
    on_err _ (breaks_off g.A.Answers.answers c.args.is_late c.args.answers.now c.messages.answers c.answer_next.new.answers c.args.self.now.kept c.messages.self c.answer_next.new.self c.args.out.now.items c.messages.out.items c.answer_next.new.out.items
    c.messages.invariant.texts c.args.self.now.left c.args.room c.messages.invariant.front c.messages.invariant.within c.messages.invariant.out_is c.in_err-answer_next.ensures.err c.in_err-answer_next.ensures.stays)

pub messages-preserved : goal.messages-preserved
messages-preserved g c =
    let next = rw c.in-Answered.is at c.in_ok-answer_next.ensures.ok in record {
      texts = c.messages.invariant.texts ++ next.0.1 ∷ [];
      front = front_next g.A.Answers.answers c.args.is_late c.args.answers.now c.messages.answers c.answer_next.new.answers c.args.self.now.kept c.messages.self c.answer_next.new.self c.messages.invariant.texts c.args.self.now.left c.in-Answered.field-0 next.0.1
          c.messages.invariant.front next.0.2 next.0.0 next.1;
      within = within_one c.args.room c.args.out.now.items c.messages.out.items c.messages.invariant.texts next.0.1 c.messages.invariant.out_is (omega arith);
      out_is = written_one c.args.out.now.items c.messages.out.items c.answer_next.new.out.items c.messages.invariant.texts next.0.1 c.messages.invariant.out_is next.0.3;
    }

pub returns-in-Ended-clause-ok : goal.returns-in-Ended-clause-ok
returns-in-Ended-clause-ok g c =
    let next = rw c.in-Ended.is at c.in_ok-answer_next.ensures.ok in
    takes_ended g.A.Answers.answers c.args.is_late c.args.answers.now c.messages.answers c.answer_next.new.answers c.args.self.now.kept c.messages.self c.answer_next.new.self c.args.out.now.items c.messages.out.items c.answer_next.new.out.items
    c.messages.invariant.texts c.args.self.now.left c.args.room c.in-Ended.end c.messages.invariant.front c.messages.invariant.within c.messages.invariant.out_is next.0 next.1
