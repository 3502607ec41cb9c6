-- Lists of messages with their payloads.
use Rattle.std.specs.Prelude.{ℕ, ◌+◌, Bool, List, [], ◌∷◌, ◌++◌, length, nat_eq, if◌then◌else◌}
use Rattle.std.specs.List.{list_any}
use Rattle.gb_types.specs.declared.{entry.Entry.Entry, message.MsgId.MsgId}
use Rattle.gb_types.specs.Common.{message_of, same}

-- the list has the message
abbrev pub has : List Entry → MsgId → Bool
has xs m = list_any (λ (x : Entry). same (message_of x) m) xs

-- the payload of the message in its first entry, empty if there is none
abbrev pub payload_in : List Entry → MsgId → List ℕ
payload_in [] m = []
payload_in (x ∷ xs) m = if same (message_of x) m then x.payload else payload_in xs m

-- the message with that payload
abbrev pub entry_in : List Entry → MsgId → Entry
entry_in xs m = record { origin = m.origin; seq = m.seq; payload = payload_in xs m }

-- the list, with the message at its end if it was not in it
abbrev pub with_new : List Entry → Entry → List Entry
with_new xs x = if has xs (message_of x) then xs else xs ++ x ∷ []

-- the number of payload bytes of an origin's messages
abbrev pub bytes_of : ℕ → List Entry → ℕ
bytes_of origin [] = 0
bytes_of origin (x ∷ xs) = (if nat_eq x.origin.number origin then length x.payload else 0) + bytes_of origin xs
