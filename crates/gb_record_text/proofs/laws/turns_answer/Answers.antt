use Rattle.gb_record_text.proofs.AnswerLemmas.{turns_answer}
use Rattle.gb_record_text.proofs.laws.turns_answer.Goals as goal

pub returns : goal.returns
returns c = turns_answer
