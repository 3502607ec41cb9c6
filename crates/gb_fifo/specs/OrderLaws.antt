-- The laws of the order of each origin, for any list of messages: first in, first out (Hadzilacos, Toueg 1994).
use Rattle.std.specs.Prelude.{◌≡◌, ◌≤◌, true, List, filter, length}
use Rattle.std.specs.List.{AllByRecursion}
use Rattle.gb_types.specs.declared.message.MsgId.{MsgId}
use Rattle.gb_types.specs.Common.{same}
use Rattle.gb_layer.specs.Common.{is_in}

-- each of the messages is in the list of the delivered messages
abbrev pub AllIn : List MsgId → List MsgId → Type 0
AllIn delivered = AllByRecursion (λ m. is_in delivered m ≡ true)

-- each message is in a list at most once
abbrev pub NoneTwice : List MsgId → Type 0
NoneTwice messages = (m : MsgId) → length (filter (λ x. same x m) messages) ≤ 1
