use Rattle.gb_types.specs.Common.{◌≡◌, ◌≤◌, ◌++◌, List, ℕ, drop, length}
use Rattle.gb_session.specs.Settled.{framed_all}
use Rattle.gb_session.specs.Takes.{AnswersFront, IsWithin}
use Rattle.gb_session.proofs.session.answer_each.Given as goal

-- the messages in front are answered
abbrev pub invariant-messages : goal.invariant-messages
invariant-messages g l = record {
  within_bytes : l.progress.at ≤ length l.bytes;
  texts : List (List ℕ);
  front : AnswersFront g.A.Answers.answers l.is_late l.initial.answers l.answers (drop l.initial.progress.at l.bytes) (drop l.progress.at l.bytes) texts l.initial.progress.left l.progress.left;
  within : IsWithin l.room l.initial.out.items texts;
  out_is : l.out.items ≡ l.initial.out.items ++ framed_all texts;
}

abbrev pub decreases-messages : goal.decreases-messages
decreases-messages g l = l.progress.left
