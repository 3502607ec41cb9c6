-- The packets without a frame that a node keeps, so that it need not make the same packet again.
use Rattle.std.specs.Prelude.{◌≡◌, ℕ, List, [], Option, None, IfSome, slice_index_or}
use Rattle.gb_frame.specs.Common.{packet_of, packet_text, IsPacket}
use Rattle.gb_node.specs.declared.packet_key.Bare.{Bare}

-- the text is the packet under the key with this head and no frame
pub record IsKept (key : List ℕ) (b : Bare) : Type 0 where
  pub text : b.text ≡ packet_text key (packet_of b.head [])
  pub packet : IsPacket (packet_of b.head [])

-- for each node, the packet that is kept, if there is one, is the right one for its head
abbrev pub AreKept : List ℕ → List (Option Bare) → Type 0
AreKept key kept = (i : ℕ) → IfSome (slice_index_or kept i None) (IsKept key)
