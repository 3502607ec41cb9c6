use Rattle.gb_types.specs.Common.{rules, ◌≡◌, ◌∙◌, ap, vec_len, vec_capacity}
use Rattle.gb_types.specs.declared.node.NodeId.{NodeId}
use Rattle.gb_layer.specs.Relay.{taken_in}
use Rattle.gb_layer.specs.PlacedCalls.{told}
use Rattle.gb_layer.specs.Column.{zipped}
use Rattle.gb_layer.specs.Below.{BelowState, below_column_name, below_out_name, below_len, below_capacity, below_entries, below_inner}
use Rattle.gb_layer.proofs.below.call_lower.Goals as goal

pub returns-clause-entries : goal.returns-clause-entries
returns-clause-entries g c =
    let ms = c.args.index.now.list.items in
    let column = c.args.column.now in
    let given = g.L.Layer.gives (g.L.Layer.meaning ms c.args.lower.now) (told ms c.args.call) in
    let s : BelowState g.O.Sink.State = record { column_name = _; out_name = _; me = c.me-me.result; len = vec_len column; capacity = vec_capacity column; entries = zipped ms column.items; inner = g.O.Sink.state ms c.args.out.now } in
    let here : zipped ms c.take.new.out.column.now.items ≡ taken_in (g.L.Layer.me (g.L.Layer.meaning ms c.args.lower.now)) given.ups (zipped ms column.items) =
    below_entries g.O.Sink.sent s _ given c.take.ensures.out ∙ ap (λ (n : NodeId). taken_in n given.ups (zipped ms column.items)) (c.me-me.ensures ms) in
    search (rules, below_column_name, here)

pub returns-clause-len : goal.returns-clause-len
returns-clause-len g c = search (rules, below_column_name, below_len)

pub returns-clause-capacity : goal.returns-clause-capacity
returns-clause-capacity g c = search (rules, below_column_name, below_capacity)

pub returns-clause-out : goal.returns-clause-out
returns-clause-out g c = search (rules, below_out_name, below_inner)
