use Rattle.gb_frame.proofs.ReadingLemmas.{text_read}
use Rattle.gb_frame.proofs.laws.what_is_written_is_read.Goals as goal

pub returns : goal.returns
returns c = text_read
