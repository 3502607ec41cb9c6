use Rattle.gb_types.specs.Common.{[], ◌∷◌, subst}
use Rattle.gb_layer.specs.BebMachine.{beb_gives}
use Rattle.gb_layer.specs.declared.placed_call.PlacedCall.{PlacedCall}
use Rattle.gb_layer.specs.PlacedCalls.{message_at, told}
use Rattle.gb_layer.specs.Sinks.{one_up}
use Rattle.gb_layer.proofs.beb.BebLayer.take.Goals as goal

pub send-requires-clause-room : goal.send-requires-clause-room
send-requires-clause-room g c =
    let ms = c.args.index.now.list.items in
    let m = message_at ms c.in-Say.place in
    let s = g.O.Sink.state ms c.args.out.now in
    let room = subst (λ (call : PlacedCall). g.O.Sink.takes s (beb_gives c.args.self.now.me (told ms call))) c.in-Say.is c.requires.room in
    g.met.O.Sink.splits.first_sends s (m ∷ []) (one_up (record { via = c.args.self.now.me; m = m })) room

pub up-requires-clause-room : goal.up-requires-clause-room
up-requires-clause-room g c =
    let ms = c.args.index.now.list.items in
    let m = message_at ms c.in-Say.place in
    let s = g.O.Sink.state ms c.args.out.now in
    let u = one_up (record { via = c.args.self.now.me; m = m }) in
    let room = subst (λ (call : PlacedCall). g.O.Sink.takes s (beb_gives c.args.self.now.me (told ms call))) c.in-Say.is c.requires.room in
    rw c.send.ensures (g.met.O.Sink.splits.then s (m ∷ []) u room)
