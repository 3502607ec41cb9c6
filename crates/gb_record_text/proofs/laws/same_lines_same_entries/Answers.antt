use Rattle.gb_record_text.proofs.LawLemmas.{same_entries}
use Rattle.gb_record_text.proofs.laws.same_lines_same_entries.Goals as goal

pub returns : goal.returns
returns c = same_entries c.one_text_one_reply.ensures c.one_word_one_kind.ensures
