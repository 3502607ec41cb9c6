use Rattle.gb_record_text.proofs.LawLemmas.{same_record}
use Rattle.gb_record_text.proofs.laws.one_text_one_record.Goals as goal

pub returns : goal.returns
returns c = same_record c.one_text_one_reply.ensures c.one_word_one_kind.ensures
