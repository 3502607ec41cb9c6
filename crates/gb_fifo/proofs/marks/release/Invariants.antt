use Rattle.gb_types.specs.Common.{◌≡◌, ◌-◌, [], fold, length, vec_len, vec_capacity}
use Rattle.gb_fifo.specs.Entries.{released, released_ups}
use Rattle.gb_fifo.specs.Marks.{marked, AreCounted}
use Rattle.gb_fifo.specs.Ordered.{HasRoomFor}
use Rattle.gb_fifo.proofs.marks.release.Given as goal

abbrev pub invariant-loop-i : goal.invariant-loop-i
invariant-loop-i g l =
    let ms = l.index.list.items in
    let s = l.origin.number in
    let all = marked ms l.fn.marks.list.items in
    let es = marked ms l.marks.list.items in
    record {
      count : l.count ≡ vec_len l.fn.marks.list;
      len : length l.marks.list.items ≡ length l.fn.marks.list.items;
      capacity : vec_capacity l.marks.list ≡ vec_capacity l.fn.marks.list;
      entries : released s (l.count - l.i) es ≡ released s l.count all;
      out : fold g.O.Sink.risen (g.O.Sink.state ms l.out) (released_ups s (l.count - l.i) es) ≡ fold g.O.Sink.risen (g.O.Sink.state ms l.fn.out) (released_ups s l.count all);
      room : HasRoomFor g.O.Sink.takes (g.O.Sink.state ms l.out) [] (released_ups s (l.count - l.i) es);
      counted : AreCounted l.marks.given es;
    }
