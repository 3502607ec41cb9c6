use Rattle.gb_types.specs.Common.{◌∷◌, []}
use Rattle.gb_layer.specs.Common.{message_at}
use Rattle.gb_fifo.proofs.ordered.OrderedSink.send.Goals as goal

pub send-requires-clause-room : goal.send-requires-clause-room
send-requires-clause-room g c =
    let ms = c.args.index.now.list.items in
    let room = c.requires.room.room in
    g.met.O.Sink.splits.first_sends (g.O.Sink.state ms c.args.self.now.out.now) (message_at ms c.args.place ∷ []) (record { sends = []; ups = room.more }) room.room
