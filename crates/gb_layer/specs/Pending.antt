-- The entries of a relay that are due.
use Rattle.std.specs.Prelude.{Bool, ◌||◌}
use Rattle.gb_types.specs.declared.node.NodeId.{NodeId}
use Rattle.gb_layer.specs.declared.entries.Entry.{Entry}
use Rattle.gb_layer.specs.Rule.{Nodes, Rules}
use Rattle.gb_layer.specs.Relay.{due_to_relay, due_to_deliver}

-- an entry is to be relayed or handed up
abbrev pub is_pending : Rules → NodeId → Nodes → Nodes → Entry → Bool
is_pending rules me members noticed e = due_to_relay rules me noticed e || due_to_deliver rules me members noticed e
