use Rattle.gb_types.specs.Common.{rules, ◌≡◌, ◌∙◌, [], List, length, vec_capacity, sym, subst, append-nil}
use Rattle.gb_layer.specs.declared.effects.Up.{Up}
use Rattle.gb_layer.specs.Common.{told, folded}
use Rattle.gb_fifo.specs.Entries.{taken, taken_ups}
use Rattle.gb_fifo.specs.Marks.{marked, AreCounted}
use Rattle.gb_fifo.specs.Ordered.{OrderedState, are_sound, sound_from, sound_counted, ordered_marks_name, ordered_out_name, ordered_len, ordered_capacity, ordered_sound, ordered_entries, ordered_inner}
use Rattle.gb_fifo.proofs.ordered.take_ordered.Goals as goal

pub take-requires-clause-room : goal.take-requires-clause-room
take-requires-clause-room g c =
    let ms = c.args.index.now.list.items in
    let marks = c.args.marks.now in
    let given = g.L.Layer.gives (g.L.Layer.meaning ms c.args.lower.now) (told ms c.args.call) in
    let ups = taken_ups given.ups (marked ms marks.list.items) in
    record {
      sound = sound_from ms marks.list.items marks.given c.requires.within c.requires.counted;
      room = record {
        more = [];
        room = subst (λ (us : List Up). g.O.Sink.takes (g.O.Sink.state ms c.args.out.now) (record { sends = given.sends; ups = us })) (sym (append-nil ups)) c.requires.room;
      };
    }

pub returns-clause-entries : goal.returns-clause-entries
returns-clause-entries g c =
    let ms = c.args.index.now.list.items in
    let marks = c.args.marks.now in
    let given = g.L.Layer.gives (g.L.Layer.meaning ms c.args.lower.now) (told ms c.args.call) in
    let s : OrderedState g.O.Sink.State = record { marks_name = _; out_name = _; len = length marks.list.items; capacity = vec_capacity marks.list; sound = are_sound ms marks.list.items marks.given; entries = marked ms marks.list.items; inner = g.O.Sink.state ms c.args.out.now } in
    let here : marked ms c.take.new.out.marks.now.list.items ≡ taken given.ups (marked ms marks.list.items) = ordered_entries g.O.Sink.sent g.O.Sink.risen s _ given c.take.ensures.out in
    search (rules, ordered_marks_name, here)

pub returns-clause-len : goal.returns-clause-len
returns-clause-len g c = search (rules, ordered_marks_name, ordered_len)

pub returns-clause-capacity : goal.returns-clause-capacity
returns-clause-capacity g c = search (rules, ordered_marks_name, ordered_capacity)

pub returns-clause-counted : goal.returns-clause-counted
returns-clause-counted g c =
    let ms = c.args.index.now.list.items in
    let marks = c.args.marks.now in
    let given = g.L.Layer.gives (g.L.Layer.meaning ms c.args.lower.now) (told ms c.args.call) in
    let s : OrderedState g.O.Sink.State = record { marks_name = _; out_name = _; len = length marks.list.items; capacity = vec_capacity marks.list; sound = are_sound ms marks.list.items marks.given; entries = marked ms marks.list.items; inner = g.O.Sink.state ms c.args.out.now } in
    let new = c.take.new.out.marks.now in
    let here : AreCounted new.given (marked ms new.list.items) =
    sound_counted ms new.list.items new.given (ordered_sound g.O.Sink.sent g.O.Sink.risen s _ given c.take.ensures.out ∙ sound_from ms marks.list.items marks.given c.requires.within c.requires.counted) in
    search (rules, ordered_marks_name, here)

pub returns-clause-out : goal.returns-clause-out
returns-clause-out g c =
    let ms = c.args.index.now.list.items in
    let marks = c.args.marks.now in
    let given = g.L.Layer.gives (g.L.Layer.meaning ms c.args.lower.now) (told ms c.args.call) in
    let s : OrderedState g.O.Sink.State = record { marks_name = _; out_name = _; len = length marks.list.items; capacity = vec_capacity marks.list; sound = are_sound ms marks.list.items marks.given; entries = marked ms marks.list.items; inner = g.O.Sink.state ms c.args.out.now } in
    let here : g.O.Sink.state ms c.take.new.out.out.now ≡ folded g.O.Sink.sent g.O.Sink.risen (g.O.Sink.state ms c.args.out.now) (record { sends = given.sends; ups = taken_ups given.ups (marked ms marks.list.items) }) =
    ordered_inner g.O.Sink.sent g.O.Sink.risen s _ given c.take.ensures.out in
    search (rules, ordered_out_name, here)
