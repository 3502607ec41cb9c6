use Rattle.gb_types.specs.Common.{◌≡◌, ◌++◌, map, filter, fold, take, drop, vec_len, vec_capacity}
use Rattle.gb_layer.specs.Relay.{due_to_deliver, handed, up_of}
use Rattle.gb_layer.specs.Sinks.{ups_alone}
use Rattle.gb_layer.specs.Column.{zipped}
use Rattle.gb_layer.proofs.column.deliver_all.Given as goal

abbrev pub invariant-loop-i : goal.invariant-loop-i
invariant-loop-i g l =
    let ms = l.index.list.items in
    let zs = zipped ms l.fn.column.items in
    let due = due_to_deliver g.R.Rule.rules l.basis.me l.basis.members.now l.basis.noticed.now in
    record {
      len : vec_len l.column ≡ vec_len l.fn.column;
      capacity : vec_capacity l.column ≡ vec_capacity l.fn.column;
      entries : zipped ms l.column.items ≡ map (handed due) (take l.i zs) ++ drop l.i zs;
      out : fold g.O.Sink.risen (g.O.Sink.state ms l.out) (map up_of (filter due (drop l.i zs))) ≡ fold g.O.Sink.risen (g.O.Sink.state ms l.fn.out) (map up_of (filter due zs));
      room : g.O.Sink.takes (g.O.Sink.state ms l.out) (ups_alone (map up_of (filter due (drop l.i zs))));
    }
