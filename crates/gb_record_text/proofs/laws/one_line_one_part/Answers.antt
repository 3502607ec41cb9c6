use Rattle.gb_record_text.proofs.LawLemmas.{same_part}
use Rattle.gb_record_text.proofs.laws.one_line_one_part.Goals as goal

pub returns : goal.returns
returns c = same_part
