use Rattle.gb_types.specs.Common.{◌≡◌, ◌∙◌, [], List, sym, subst, arith, append-nil}
use Rattle.gb_layer.specs.declared.effects.Up.{Up}
use Rattle.gb_layer.specs.Common.{message_at}
use Rattle.gb_fifo.specs.Entries.{taken_one_ups}
use Rattle.gb_fifo.specs.Marks.{marked}
use Rattle.gb_fifo.specs.Ordered.{are_sound, sound_from, sound_within, sound_counted, HasRoomFor}
use Rattle.gb_fifo.proofs.ordered.OrderedSink.up.Goals as goal

pub take_one-requires-clause-within : goal.take_one-requires-clause-within
take_one-requires-clause-within g c =
    let ms = c.args.index.now.list.items in
    let marks = c.args.self.now.marks.now in
    sound_within ms marks.list.items marks.given c.requires.room.sound

pub take_one-requires-clause-counted : goal.take_one-requires-clause-counted
take_one-requires-clause-counted g c =
    let ms = c.args.index.now.list.items in
    let marks = c.args.self.now.marks.now in
    sound_counted ms marks.list.items marks.given c.requires.room.sound

pub take_one-requires-clause-room : goal.take_one-requires-clause-room
take_one-requires-clause-room g c =
    let ms = c.args.index.now.list.items in
    let marks = c.args.self.now.marks.now in
    let ups = taken_one_ups (message_at ms c.args.place) (marked ms marks.list.items) in
    subst (λ (us : List Up). HasRoomFor g.O.Sink.takes (g.O.Sink.state ms c.args.self.now.out.now) [] us) (append-nil ups) c.requires.room.room

pub returns : goal.returns
returns g c =
    let ms = c.args.index.now.list.items in
    let marks = c.args.self.now.marks.now in
    let new = c.take_one.new.marks in
    let kept = c.take_one.ensures in
    let within = sound_within ms marks.list.items marks.given c.requires.room.sound in
    let len = kept.len in
    let sound : are_sound ms new.list.items new.given ≡ are_sound ms marks.list.items marks.given =
    sound_from ms new.list.items new.given (omega (arith, within, len)) kept.counted ∙ sym c.requires.room.sound in
    λ i. record { marks_name = c.args.self.now.marks.ghost_name; out_name = c.args.self.now.out.ghost_name; len = kept.len i; capacity = kept.capacity i; sound = sound i; entries = kept.entries i; inner = kept.out i }
