-- The numbers of an entry of a tape, and of a record's first line, are within their types.
use Rattle.std.specs.{Prelude.◌<◌, Prelude.◌^◌, Prelude.All, Option.ForSome}
use Rattle.hex.specs.Hex.{IsBytes}
use Rattle.gb_spelling.specs.Common.{FitsReply, IsShort, IsLong, IsGroup}
use Rattle.gb_types.specs.Common.{AreNodes}
use Rattle.gb_types.specs.declared.{address.Addr.Addr, new_message.NewMessage.NewMessage, request.Action.Action, request.Action.TheVariants.AddTenant, request.Action.TheVariants.Group, request.GroupCommand.GroupCommand, request.Request.Request, spec.Spec.Spec, spec.TenantRow.TenantRow, request.GroupCommand.TheVariants.Make, request.GroupCommand.TheVariants.Say, request.GroupCommand.TheVariants.Fetch}
use Rattle.gb_node.specs.declared.{answer.NodeAnswer.NodeAnswer, answer.PacketAnswer.TheVariants.Good as TakenGood, answer.Sent.TheVariants.Packet as SentPacket, answer.Ticked.TheVariants.Noticed, event.NodeEvent.NodeEvent, tape.TapeEntry.TapeEntry, event.NodeEvent.TheVariants.Request as Asked, event.NodeEvent.TheVariants.Packet as Came, event.NodeEvent.TheVariants.Again}
use Rattle.gb_node.specs.declared.answer.NodeAnswer.TheVariants.{Reply as Replied, Taken, Sent, Ticked}
use Rattle.gb_record_text.specs.declared.{head.RecordHead.RecordHead, part_head.PartHead.PartHead, reader.Record.Record}

abbrev pub FitsAddress : Addr → Type 0
FitsAddress addr = IsShort addr.tenant × IsGroup addr

pub record FitsRow (row : TenantRow) : Type 0 where
  pub tenant : IsShort row.tenant
  pub key : IsBytes row.key
  pub groups : IsLong row.groups
  pub msgs : IsLong row.msgs
  pub bytes : IsLong row.bytes
  pub window : IsLong row.window

pub record FitsSpec (spec : Spec) : Type 0 where
  pub members : AreNodes spec.members
  pub msgs : IsLong spec.msgs
  pub bytes : IsLong spec.bytes
  pub window : IsLong spec.window

abbrev pub FitsMessage : NewMessage → Type 0
FitsMessage message = IsBytes message.payload × ForSome message.seq IsLong

abbrev pub FitsCommand : GroupCommand → Type 0
FitsCommand (Make spec) = FitsSpec spec
FitsCommand (Say message) = FitsMessage message
FitsCommand (Fetch from most) = IsLong from × IsLong most
FitsCommand command = Unit {0}

abbrev pub FitsAction : Action → Type 0
FitsAction (AddTenant row) = FitsRow row
FitsAction (Group addr command) = FitsAddress addr × FitsCommand command

abbrev pub FitsRequest : Request → Type 0
FitsRequest request = IsBytes request.token × FitsAction request.what

abbrev pub FitsEvent : NodeEvent → Type 0
FitsEvent (Asked request) = FitsRequest request
FitsEvent (Came bytes) = IsBytes bytes
FitsEvent (Again to frame) = frame < 2 ^ 64
FitsEvent event = Unit {0}

abbrev pub FitsAnswer : NodeAnswer → Type 0
FitsAnswer (Replied reply) = FitsReply reply
FitsAnswer (Taken (TakenGood good)) = IsLong good.items × IsLong good.done
FitsAnswer (Sent (SentPacket text)) = IsBytes text
FitsAnswer (Ticked (Noticed found)) = AreNodes found
FitsAnswer answer = Unit {0}

pub record FitsEntry (e : TapeEntry) : Type 0 where
  pub seat : IsLong e.seat
  pub count : e.count < 2 ^ 64
  pub event : FitsEvent e.event
  pub answer : FitsAnswer e.answer

pub record FitsHead (h : RecordHead) : Type 0 where
  pub nodes : IsShort h.nodes
  pub silence : IsShort h.silence
  pub places : IsShort h.places
  pub room : IsShort h.room

pub record FitsPart (h : PartHead) : Type 0 where
  pub cluster : FitsHead h.cluster
  pub part : IsLong h.part
  pub before : h.before < 2 ^ 64
  pub boot : IsBytes h.boot
  pub tag : IsBytes h.tag

pub record FitsRecord (r : Record) : Type 0 where
  pub head : FitsHead r.head
  pub entries : All FitsEntry r.entries.items
