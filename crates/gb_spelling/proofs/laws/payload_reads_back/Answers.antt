use Rattle.gb_spelling.proofs.PayloadLemmas.{payload_of-payload_word}
use Rattle.gb_spelling.proofs.laws.payload_reads_back.Goals as goal

pub returns : goal.returns
returns c = payload_of-payload_word
