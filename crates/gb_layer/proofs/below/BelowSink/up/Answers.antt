use Rattle.gb_layer.proofs.below.BelowSink.up.Goals as goal

pub returns : goal.returns
returns g c =
    let ms = c.args.index.now.list.items in
    let b = c.args.self.now in
    λ j. record {
      column_name = b.column.ghost_name;
      out_name = b.out.ghost_name;
      me = b.me;
      len = c.hold_at.ensures.len j;
      capacity = c.hold_at.ensures.capacity j;
      entries = c.hold_at.ensures.entries j;
      inner = g.O.Sink.state ms b.out.now;
    }
