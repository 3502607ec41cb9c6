use Rattle.gb_record_text.proofs.LawLemmas.{same_entry}
use Rattle.gb_record_text.proofs.laws.one_line_one_entry.Goals as goal

pub returns : goal.returns
returns c = same_entry c.one_text_one_reply.ensures c.one_word_one_kind.ensures
