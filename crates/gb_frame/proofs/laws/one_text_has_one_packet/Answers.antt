use Rattle.gb_frame.proofs.TextLemmas.{one_packet}
use Rattle.gb_frame.proofs.laws.one_text_has_one_packet.Goals as goal

pub returns : goal.returns
returns c = one_packet
