-- Layers in which each call sends at most one message.
use Rattle.std.proofs.Common.{◌≤◌, length, arith}
use Rattle.gb_layer.specs.declared.{call.Call.Call, call.Call.TheVariants.Say, call.Call.TheVariants.Came, call.Call.TheVariants.Notice}
use Rattle.gb_layer.specs.BebMachine.{beb_gives}
use Rattle.gb_layer.specs.Machine.{Gives}

-- each call sends at most one message
abbrev pub SendsAtMostOne : {S : Type 0} → (S → Call → Gives) → Type 0
SendsAtMostOne {S} gives = (s : S) (c : Call) → length (gives s c).sends ≤ 1

pub beb_sends_one : SendsAtMostOne beb_gives
beb_sends_one me (Say m) = omega arith
beb_sends_one me (Came p m) = omega arith
beb_sends_one me (Notice q) = omega arith
