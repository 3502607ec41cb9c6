-- Laws of the packet text.
use Rattle.std.specs.Prelude.{◌≡◌, ℕ, List, Ok}
use Rattle.gb_frame.specs.Packet.{Content}
use Rattle.gb_frame.specs.Spelling.{packet_text, IsPacket, IsText}
use Rattle.gb_frame.specs.Reading.{reading}

-- bytes are the text of at most one packet
abbrev pub OneTextHasOnePacket : Type 0
OneTextHasOnePacket = (key bytes : List ℕ) (c d : Content) → IsText key bytes c → IsText key bytes d → c ≡ d

-- a packet has one text under a key
abbrev pub OnePacketHasOneText : Type 0
OnePacketHasOneText = (key bytes others : List ℕ) (c : Content) → IsText key bytes c → IsText key others c → bytes ≡ others

-- a packet's text is read as that packet
abbrev pub WhatIsWrittenIsRead : Type 0
WhatIsWrittenIsRead = (key : List ℕ) (c : Content) → IsPacket c → reading key (packet_text key c) ≡ Ok c
