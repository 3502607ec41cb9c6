use Rattle.gb_spelling.proofs.ReplyLemmas.{same_reply}
use Rattle.gb_spelling.proofs.laws.one_text_one_reply.Goals as goal

pub returns : goal.returns
returns c = same_reply
