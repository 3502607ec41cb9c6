-- Entries: messages with their payloads.
use Rattle.gb_types.specs.declared.{entry.Entry.Entry, message.MsgId.MsgId}

-- the origin and the number of an entry's message
abbrev pub message_of : Entry → MsgId
message_of e = record { origin = e.origin; seq = e.seq }
