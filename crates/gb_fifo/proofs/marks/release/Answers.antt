use Rattle.gb_types.specs.Common.{◌≡◌, ℕ, ◌<◌, ◌-◌, ◌∙◌, [], fold, length, refl, ap, sym, subst, arith}
use Rattle.gb_layer.specs.Common.{length-paired}
use Rattle.gb_fifo.specs.Entries.{next_of, give, released, released_ups}
use Rattle.gb_fifo.proofs.PlacedLemmas.{released_more, released_done}
use Rattle.gb_fifo.specs.Marks.{entry_of, marked}
use Rattle.gb_fifo.specs.Ordered.{HasRoomFor}
use Rattle.gb_fifo.proofs.ReleaseLemmas.{no_parts, step_room, more_room, more_out}
use Rattle.gb_fifo.proofs.marks.release.Goals as goal

pub loop-i-init : goal.loop-i-init
loop-i-init g c =
    let ms = c.args.index.now.list.items in
    let s = c.args.origin.number in
    let ks = c.args.marks.now.list.items in
    let all = marked ms ks in
    let t = g.O.Sink.state ms c.args.out.now in
    let n = c.len-count.result in
    let len = length-paired entry_of ms ks c.requires.within in
    let ok = c.args.marks.now.list.ok.0 in
    let count = c.len-count.ensures in
    let e : length all ≡ n - 0 = omega (arith, len, ok, count) in
    let z : n - 0 ≡ n = omega arith in
    record {
      count = count;
      len = refl;
      capacity = refl;
      entries = ap (λ k. released s k all) z;
      out = ap (λ k. fold g.O.Sink.risen t (released_ups s k all)) z;
      room = subst (λ (k : ℕ). HasRoomFor g.O.Sink.takes t [] (released_ups s k all)) e c.requires.room;
      counted = c.requires.counted;
    }

pub give_next-requires-clause-room : goal.give_next-requires-clause-room
give_next-requires-clause-room g c =
    let ms = c.args.index.now.list.items in
    let es = marked ms c.loop-i.marks.list.items in
    let s = c.args.origin.number in
    step_room g.O.Sink.sent g.O.Sink.risen g.O.Sink.takes g.met.O.Sink.splits s c.len-count.result c.loop-i.i es (give (next_of s es) es) c.loop-i-test.true refl (g.O.Sink.state ms c.loop-i.out) c.loop-i.invariant.room

pub loop-i-preserved : goal.loop-i-preserved
loop-i-preserved g c =
    let ms = c.args.index.now.list.items in
    let s = c.args.origin.number in
    let n = c.len-count.result in
    let i = c.loop-i.i in
    let all = marked ms c.args.marks.now.list.items in
    let es = marked ms c.loop-i.marks.list.items in
    let es' = marked ms c.give_next.new.marks.list.items in
    let lt : i < n = c.loop-i-test.true in
    let was = c.loop-i.invariant in
    let kept = c.give_next.ensures in
    let t = g.O.Sink.state ms c.loop-i.out in
    let t' = g.O.Sink.state ms c.give_next.new.out in
    record {
      count = was.count;
      len = kept.len ∙ was.len;
      capacity = kept.capacity ∙ was.capacity;
      entries = released_more s n i es es' (released s n all) lt kept.entries was.entries;
      out = more_out g.O.Sink.sent g.O.Sink.risen g.O.Sink.takes g.met.O.Sink.splits s n i es es' lt kept.entries t t' _ kept.out was.out;
      room = more_room g.O.Sink.sent g.O.Sink.risen g.O.Sink.takes g.met.O.Sink.splits s n i es es' lt kept.entries t t' kept.out was.room;
      counted = kept.counted;
    }

pub returns-then-not-give_next-clause-entries : goal.returns-then-not-give_next-clause-entries
returns-then-not-give_next-clause-entries g c =
    let ms = c.args.index.now.list.items in
    let s = c.args.origin.number in
    let n = c.len-count.result in
    let all = marked ms c.args.marks.now.list.items in
    let es = marked ms c.loop-i.marks.list.items in
    let len = length-paired entry_of ms c.args.marks.now.list.items c.requires.within in
    let ok = c.args.marks.now.list.ok.0 in
    let count = c.len-count.ensures in
    let e : n ≡ length all = omega (arith, len, ok, count) in
    released_done s (n - c.loop-i.i) es (marked ms c.give_next.new.marks.list.items) (released s n all) (sym c.give_next.ensures.found ∙ c.if-not-give_next.true) c.give_next.ensures.entries c.loop-i.invariant.entries
    ∙ ap (λ k. released s k all) e

pub returns-then-not-give_next-clause-out : goal.returns-then-not-give_next-clause-out
returns-then-not-give_next-clause-out g c =
    let ms = c.args.index.now.list.items in
    let s = c.args.origin.number in
    let n = c.len-count.result in
    let all = marked ms c.args.marks.now.list.items in
    let es = marked ms c.loop-i.marks.list.items in
    let len = length-paired entry_of ms c.args.marks.now.list.items c.requires.within in
    let ok = c.args.marks.now.list.ok.0 in
    let count = c.len-count.ensures in
    let e : n ≡ length all = omega (arith, len, ok, count) in
    c.give_next.ensures.out
    ∙ (ap (fold g.O.Sink.risen (g.O.Sink.state ms c.loop-i.out)) (no_parts s (n - c.loop-i.i) es (sym c.give_next.ensures.found ∙ c.if-not-give_next.true))
    ∙ (c.loop-i.invariant.out ∙ ap (λ k. fold g.O.Sink.risen (g.O.Sink.state ms c.args.out.now) (released_ups s k all)) e))

pub returns-clause-entries : goal.returns-clause-entries
returns-clause-entries g c =
    let ms = c.args.index.now.list.items in
    let s = c.args.origin.number in
    let n = c.len-count.result in
    let all = marked ms c.args.marks.now.list.items in
    let es = marked ms c.loop-i.marks.list.items in
    let len = length-paired entry_of ms c.args.marks.now.list.items c.requires.within in
    let ok = c.args.marks.now.list.ok.0 in
    let count = c.len-count.ensures in
    let test = c.loop-i-test.false in
    let e : n ≡ length all = omega (arith, len, ok, count) in
    let z : 0 ≡ n - c.loop-i.i = omega (arith, test) in
    ap (λ k. released s k es) z ∙ (c.loop-i.invariant.entries ∙ ap (λ k. released s k all) e)

pub returns-clause-out : goal.returns-clause-out
returns-clause-out g c =
    let ms = c.args.index.now.list.items in
    let s = c.args.origin.number in
    let n = c.len-count.result in
    let all = marked ms c.args.marks.now.list.items in
    let es = marked ms c.loop-i.marks.list.items in
    let len = length-paired entry_of ms c.args.marks.now.list.items c.requires.within in
    let ok = c.args.marks.now.list.ok.0 in
    let count = c.len-count.ensures in
    let test = c.loop-i-test.false in
    let e : n ≡ length all = omega (arith, len, ok, count) in
    let z : 0 ≡ n - c.loop-i.i = omega (arith, test) in
    ap (λ k. fold g.O.Sink.risen (g.O.Sink.state ms c.loop-i.out) (released_ups s k es)) z
    ∙ (c.loop-i.invariant.out ∙ ap (λ k. fold g.O.Sink.risen (g.O.Sink.state ms c.args.out.now) (released_ups s k all)) e)
