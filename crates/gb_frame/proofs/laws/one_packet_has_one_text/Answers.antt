use Rattle.gb_frame.proofs.TextLemmas.{one_text}
use Rattle.gb_frame.proofs.laws.one_packet_has_one_text.Goals as goal

pub returns : goal.returns
returns c = one_text
