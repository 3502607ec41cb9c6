use Rattle.gb_types.specs.Common.{◌≡◌, ◌∙◌, List, [], fold, length, map, slice_index, ap, sym, subst, length-map}
use Rattle.gb_layer.specs.declared.effects.Up.{Up}
use Rattle.gb_layer.specs.Common.{message_at}
use Rattle.gb_fifo.specs.Entries.{brought, given_of, released, released_ups}
use Rattle.gb_fifo.proofs.NumberLemmas.{given_brought}
use Rattle.gb_fifo.specs.Ordered.{HasRoomFor}
use Rattle.gb_fifo.specs.Marks.{marked}
use Rattle.gb_fifo.proofs.marks.take_one.Goals as goal

pub release-requires-clause-counted : goal.release-requires-clause-counted
release-requires-clause-counted g c = λ o below.
    let ms = c.args.index.now.list.items in
    let es = marked ms c.args.marks.now.list.items in
    let m = message_at ms c.args.place in
    ap (λ given. slice_index given o) c.bring.ensures.given ∙ (c.requires.counted o below ∙ (sym (given_brought o m es) ∙ ap (given_of o) (sym c.bring.ensures.entries)))

pub release-requires-clause-room : goal.release-requires-clause-room
release-requires-clause-room g c =
    let ms = c.args.index.now.list.items in
    let es = marked ms c.args.marks.now.list.items in
    let es' = marked ms c.bring.new.marks.list.items in
    let m = message_at ms c.args.place in
    let all : released_ups m.origin.number (length es) (map (brought m) es) ≡ released_ups c.message-m.result.origin.number (length es') es' =
    (λ i. released_ups m.origin.number (sym (length-map es (brought m)) i) (map (brought m) es))
    ∙ (ap (λ xs. released_ups m.origin.number (length xs) xs) (sym c.bring.ensures.entries) ∙ ap (λ x. released_ups x.origin.number (length es') es') (sym c.message-m.ensures)) in
    subst (λ (us : List Up). HasRoomFor g.O.Sink.takes (g.O.Sink.state ms c.args.out.now) [] us) all c.requires.room

pub returns-clause-entries : goal.returns-clause-entries
returns-clause-entries g c =
    let ms = c.args.index.now.list.items in
    let es = marked ms c.args.marks.now.list.items in
    let es' = marked ms c.bring.new.marks.list.items in
    let m = message_at ms c.args.place in
    c.release.ensures.entries
    ∙ (ap (λ x. released x.origin.number (length es') es') c.message-m.ensures
    ∙ (ap (λ xs. released m.origin.number (length xs) xs) c.bring.ensures.entries ∙ (λ i. released m.origin.number (length-map es (brought m) i) (map (brought m) es))))

pub returns-clause-out : goal.returns-clause-out
returns-clause-out g c =
    let ms = c.args.index.now.list.items in
    let es = marked ms c.args.marks.now.list.items in
    let es' = marked ms c.bring.new.marks.list.items in
    let m = message_at ms c.args.place in
    c.release.ensures.out
    ∙ ap (fold g.O.Sink.risen (g.O.Sink.state ms c.args.out.now))
    (ap (λ x. released_ups x.origin.number (length es') es') c.message-m.ensures
    ∙ (ap (λ xs. released_ups m.origin.number (length xs) xs) c.bring.ensures.entries ∙ (λ i. released_ups m.origin.number (length-map es (brought m) i) (map (brought m) es))))
