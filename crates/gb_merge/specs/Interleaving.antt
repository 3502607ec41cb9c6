-- Interleavings of tapes: one list of events of the cluster in which each node's events are the entries of its tape.
use Rattle.std.specs.Prelude.{ℕ, zero, suc, ◌≡◌, ◌⊎◌, Bool, true, false, List, [], ◌∷◌, ◌++◌, slice_get, slice_index_or, Option, Some, None, is_ok, nat_eq, if◌then◌else◌}
use Rattle.gb_types.specs.declared.{node.NodeId.NodeId, plan.Plan.Plan}
use Rattle.gb_node.specs.Common.{read_at, new_node}
use Rattle.gb_node.specs.declared.{answer.NodeAnswer.NodeAnswer, answer.NodeAnswer.TheVariants.Sent, answer.Sent.TheVariants.Packet as SentPacket, event.NodeEvent.NodeEvent, event.NodeEvent.TheVariants.Packet as Came, tape.TapeEntry.TapeEntry}
use Rattle.gb_cluster.specs.Common.{node_plan}
use Rattle.gb_cluster.specs.declared.{event.Event.Event, event.Event.TheVariants.At, event.Event.TheVariants.Arrive}

-- a step of the interleaving: the next entry of the node's tape is taken
pub record Pick : Type 0 where
  pub node : NodeId
  pub entry : TapeEntry

-- the entries that are taken at a node, in order
unfoldable pub entries_at : ℕ → List Pick → List TapeEntry
entries_at a [] = []
entries_at a (p ∷ picks) = if nat_eq p.node.number a then p.entry ∷ entries_at a picks else entries_at a picks

-- the tape of a node
abbrev pub tape_of : List (List TapeEntry) → ℕ → List TapeEntry
tape_of tapes a = slice_index_or tapes a []

-- the packets that an answer sends: one, or none
abbrev pub sent_by : NodeAnswer → List (List ℕ)
sent_by (Sent (SentPacket text)) = text ∷ []
sent_by answer = []

-- the packet with this number, if there is one; packets count from 1
abbrev pub text_numbered : List (List ℕ) → ℕ → Option (List ℕ)
text_numbered sent zero = None
text_numbered sent (suc k) = slice_get sent k

-- the bytes are a packet of the cluster for the node, from one of its nodes
unfoldable pub is_good : Plan → NodeId → List ℕ → Bool
is_good plan a bytes = is_ok (read_at (new_node (node_plan plan a)) bytes)

-- The event of the cluster for an entry's event at a node, after these packets were sent. Bytes that are a packet for the node are the arrival of an
-- equal packet that was sent, other bytes are noise, and each other event is itself.
abbrev pub IsEventOf : Plan → NodeId → List (List ℕ) → NodeEvent → Event → Type 0
IsEventOf plan a sent (Came bytes) e = ((k : ℕ) × (e ≡ Arrive k) × (text_numbered sent k ≡ Some bytes) × (is_good plan a bytes ≡ true)) ⊎ ((e ≡ At a (Came bytes)) × (is_good plan a bytes ≡ false))
IsEventOf plan a sent event e = e ≡ At a event

-- the events are those of the entries, in order, after these packets were sent; the entries' answers send the further packets
unfoldable pub AreEvents : Plan → List (List ℕ) → List Pick → List Event → Type 0
AreEvents plan sent [] [] = Unit {0}
AreEvents plan sent (p ∷ picks) (e ∷ events) = IsEventOf plan p.node sent p.entry.event e × AreEvents plan (sent ++ sent_by p.entry.answer) picks events
AreEvents plan sent [] (e ∷ events) = ⊥
AreEvents plan sent (p ∷ picks) [] = ⊥

-- the events at each node are the entries of its tape, in order
pub record IsInterleaving (plan : Plan) (tapes : List (List TapeEntry)) (events : List Event) : Type 0 where
  pub picks : List Pick
  pub are_events : AreEvents plan [] picks events
  pub whole : (a : ℕ) → entries_at a picks ≡ tape_of tapes a
