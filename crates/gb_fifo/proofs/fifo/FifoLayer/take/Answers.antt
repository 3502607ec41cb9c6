use Rattle.gb_types.specs.Common.{◌≡◌, ◌∙◌, length, ap, sym, subst, arith}
use Rattle.gb_layer.specs.Common.{Gives, told, told_after, folded}
use Rattle.gb_fifo.specs.Entries.{noted_by, taken, taken_ups}
use Rattle.gb_fifo.specs.Marks.{marked}
use Rattle.gb_fifo.proofs.FifoKnowsLemmas.{told_most, told_few, noted_counted}
use Rattle.gb_fifo.proofs.fifo.FifoLayer.take.Goals as goal

pub take_ordered-requires-clause-known : goal.take_ordered-requires-clause-known
take_ordered-requires-clause-known g c =
    let L = g.L.Layer in
    let k = c.requires.known in
    record {
      count = k.count;
      memory = k.memory;
      knows = subst (λ l. L.knows c.args.index.now.list.items l k.count k.memory) (sym c.note_call.ensures.lower) k.knows.lower;
      next = k.next;
    }

pub take_ordered-requires-clause-within : goal.take_ordered-requires-clause-within
take_ordered-requires-clause-within g c =
    let ms = c.args.index.now.list.items in
    let k = c.requires.known.knows in
    let count = k.count in
    let within = k.within in
    let most = told_most c.args.call (length c.args.self.now.marks.list.items) (length ms) c.requires.there (omega (arith, count, within)) in
    let new = c.note_call.ensures.count in
    omega (arith, most, new)

pub take_ordered-requires-clause-counted : goal.take_ordered-requires-clause-counted
take_ordered-requires-clause-counted g c =
    let ms = c.args.index.now.list.items in
    let marks = c.args.self.now.marks in
    let new = c.note_call.new.self.marks in
    noted_counted (told ms c.args.call) marks.given new.given (marked ms marks.list.items) (marked ms new.list.items) c.note_call.ensures.given c.note_call.ensures.entries c.requires.known.knows.counted

pub take_ordered-requires-clause-room : goal.take_ordered-requires-clause-room
take_ordered-requires-clause-room g c =
    let L = g.L.Layer in
    let ms = c.args.index.now.list.items in
    let call = told ms c.args.call in
    let s = g.O.Sink.state ms c.args.out.now in
    let low = c.note_call.ensures.lower in
    let effects : record { sends = (L.gives (L.meaning ms c.args.self.now.lower) call).sends; ups = taken_ups (L.gives (L.meaning ms c.args.self.now.lower) call).ups (noted_by call (marked ms c.args.self.now.marks.list.items)) }
    ≡ record { sends = (L.gives (L.meaning ms c.note_call.new.self.lower) call).sends; ups = taken_ups (L.gives (L.meaning ms c.note_call.new.self.lower) call).ups (marked ms c.note_call.new.self.marks.list.items) } =
    λ i. record { sends = (L.gives (L.meaning ms (sym low i)) call).sends; ups = taken_ups (L.gives (L.meaning ms (sym low i)) call).ups (sym c.note_call.ensures.entries i) } in
    subst (λ (e : Gives). g.O.Sink.takes s e) effects c.requires.room

pub returns-clause-meaning : goal.returns-clause-meaning
returns-clause-meaning g c =
    let L = g.L.Layer in
    let ms = c.args.index.now.list.items in
    let call = told ms c.args.call in
    let low = c.note_call.ensures.lower in
    let lower = c.take_ordered.ensures.meaning ∙ (λ i. L.next (L.meaning ms (low i)) call) in
    let entries = c.take_ordered.ensures.entries ∙ (λ i. taken (L.gives (L.meaning ms (low i)) call).ups (c.note_call.ensures.entries i)) in
    λ i. record { lower = lower i; entries = entries i }

pub returns-clause-out : goal.returns-clause-out
returns-clause-out g c =
    let L = g.L.Layer in
    let ms = c.args.index.now.list.items in
    let call = told ms c.args.call in
    let low = c.note_call.ensures.lower in
    c.take_ordered.ensures.out
    ∙ (λ i. folded g.O.Sink.sent g.O.Sink.risen (g.O.Sink.state ms c.args.out.now) (record {
      sends = (L.gives (L.meaning ms (low i)) call).sends;
      ups = taken_ups (L.gives (L.meaning ms (low i)) call).ups (c.note_call.ensures.entries i);
    }))

pub returns-clause-known : goal.returns-clause-known
returns-clause-known g c = λ n w k next.
    let L = g.L.Layer in
    let ms = c.args.index.now.list.items in
    let count = k.count in
    let memory = k.memory in
    let capacity = c.take_ordered.ensures.capacity ∙ c.note_call.ensures.capacity in
    record {
      count = c.take_ordered.ensures.len ∙ (c.note_call.ensures.count ∙ ap (λ m. told_after m c.args.call) count);
      within = told_most c.args.call n (length ms) c.requires.there k.within;
      few = told_few c.args.call n w next k.few;
      memory = omega (arith, memory, capacity);
      counted = c.take_ordered.ensures.counted;
      lower = c.take_ordered.ensures.known n w (subst (λ l. L.knows ms l n w) (sym c.note_call.ensures.lower) k.lower) next;
    }
